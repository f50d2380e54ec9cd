use Rattle.std.proofs.Common.{◌≡◌, false, drop}
use Rattle.page_redo.specs.Forward.{forward_from}
use Rattle.page_redo.proofs.forward.bring_records.Given as goal

abbrev pub invariant-loop-record : goal.invariant-loop-record
invariant-loop-record l = forward_from l.id l.page l.is_raised (drop l.record-index l.records) ≡ forward_from l.id l.fn.page false l.records
