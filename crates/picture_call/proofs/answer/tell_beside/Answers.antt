use Rattle.std.proofs.Common.{◌<◌, length, arith}
use Rattle.std.proofs.lemmas.Grind.{common_steps}
use Rattle.picture_call.proofs.Telling.{beside}
use Rattle.picture_call.proofs.answer.tell_beside.Goals as goal

pub returns-clause-told : goal.returns-clause-told
returns-clause-told c =
    let some : 0 < length c.args.script.now = grind (arith, common_steps, c.is_empty.ensures, c.if-is_empty.false) in
    beside c.args.sizes.now.members c.args.script.now c.args.report.now c.args.name.now c.tell_script.result some c.tell_script.ensures.refused c.tell_script.ensures.read
