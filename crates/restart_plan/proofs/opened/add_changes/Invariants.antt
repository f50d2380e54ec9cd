use Rattle.std.proofs.Common.{◌≡◌, true, drop}
use Rattle.restart_plan.specs.Opened.{with_changes}
use Rattle.restart_plan.proofs.opened.add_changes.Given as goal

abbrev pub invariant-loop-record : goal.invariant-loop-record
invariant-loop-record l = with_changes l.member l.tran l.is_last l.changes (drop l.record-index l.records) ≡ with_changes l.member l.tran true l.fn.changes l.records
