use Rattle.std.proofs.Common.{◌≡◌, Ok, rules}
use Rattle.report_text.specs.Steps.{report_of}
use Rattle.picture_call.proofs.Telling.{answered}
use Rattle.picture_call.proofs.answer.answer_parts.Goals as goal

pub returns-in-Ok-clause-answered : goal.returns-in-Ok-clause-answered
returns-in-Ok-clause-answered c =
    let is : report_of c.args.report.now ≡ Ok c.in-Ok.report = search (rules, c.in-Ok.ensures.exact) in
    answered c.args.order c.args.name.now c.args.script.now c.args.report.now c.in-Ok.report c.tell_report.result is c.tell_report.ensures.untraced c.tell_report.ensures.unknown c.tell_report.ensures.told c.tell_report.ensures.drawn
