use Rattle.std.proofs.Common.{◌≡◌, IfOk, subst}
use Rattle.ds_disk.specs.Contents.{Becomes}
use Rattle.checked_run.specs.Back.{Holds}
use Rattle.checked_run.specs.Told.{TellsAlways}
use Rattle.checked_run.proofs.Sound.{JudgedAs, held_told, unread_told, unread_entries, unfailed_before}
use Rattle.checked_run.proofs.settle.check_entries.Goals as goal

pub returns-in-Ok-clause-checks : goal.returns-in-Ok-clause-checks
returns-in-Ok-clause-checks g c before traced account le rose none traces =
    let back = c.check_back-read.ensures.back before le rose in
    let was = g.D.Disk.contents c.args.disk.now in
    let after = g.D.Disk.contents c.check_back-read.new.disk in
    let judged = subst (λ r. IfOk r (λ rows. Becomes was after (Holds (JudgedAs c.args.script.now c.args.opening.now c.deref.result.now rows)))) c.in-Ok.is back.ok in
    held_told (TellsAlways g.D.Disk.contents) c.args.script.now c.args.opening.now traced c.check_back-read.result.1 c.args.trace c.status_of.result before (g.D.Disk.faults c.check_back-read.new.disk) was after account c.args.entries.items c.deref.result.now c.in-Ok.rows c.told_with.result
    (λ tells. tells c.args.disk.now) judged back.one (λ e. none (unfailed_before c.args.failed c.check_back-read.result.1 c.check_back-read.ensures.kept e)) traces c.deref.ensures.value c.status_of.ensures c.told_with.ensures

pub returns-in-Err-clause-checks : goal.returns-in-Err-clause-checks
returns-in-Err-clause-checks g c before traced account le rose none traces =
    let back = c.check_back-read.ensures.back before le rose in
    let was = g.D.Disk.contents c.args.disk.now in
    let after = g.D.Disk.contents c.check_back-read.new.disk in
    unread_told (TellsAlways g.D.Disk.contents) c.args.script.now c.args.opening.now traced c.check_back-read.result.1 c.args.trace before (g.D.Disk.faults c.check_back-read.new.disk) was after account c.args.entries.items c.check_back-read.result.0 c.in-Err.why c.told_unread.result
    (λ tells. tells c.args.disk.now) c.in-Err.is back.one back.two traces c.check_back-read.ensures.damaged c.told_unread.ensures.failed c.told_unread.ensures.damaged c.told_unread.ensures.wanting

pub returns-in-Err-clause-tells : goal.returns-in-Err-clause-tells
returns-in-Err-clause-tells g c =
    unread_entries c.args.script.now c.args.opening.now c.args.failed c.args.trace c.args.entries.items c.in-Err.why c.told_unread.result
    c.told_unread.ensures.failed c.told_unread.ensures.damaged c.told_unread.ensures.wanting
