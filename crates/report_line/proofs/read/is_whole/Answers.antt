use Rattle.std.proofs.Common.{◌≡◌, ◌==◌, true, false, arith, ◌∙◌}
use Rattle.std.proofs.lemmas.Bool.Decides.{nat_tests}
use Rattle.report_line.proofs.Ends.{whole_yes, whole_no}
use Rattle.report_line.proofs.read.is_whole.Goals as goal

pub returns-then-last-eq10 : goal.returns-then-last-eq10
returns-then-last-eq10 c =
    let last : (c.in-Some.last.now == 10) ≡ true = (let is = c.if-last-eq10.true in grind (arith, nat_tests)) in
    c.eq.ensures ∙ whole_yes c.args.spelling.now c.in-Some.body.now c.args.text.now c.in-Some.last.now c.in-Some.ensures.cases.0 last

pub returns-else-last-eq10 : goal.returns-else-last-eq10
returns-else-last-eq10 c =
    let last : (c.in-Some.last.now == 10) ≡ false = (let is = c.if-last-eq10.false in grind (arith, nat_tests)) in
    whole_no c.args.spelling.now c.in-Some.body.now c.args.text.now c.in-Some.last.now c.in-Some.ensures.cases.0 last
