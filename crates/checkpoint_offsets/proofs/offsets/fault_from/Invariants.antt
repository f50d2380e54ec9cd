use Rattle.std.proofs.Common.{◌≡◌, drop}
use Rattle.std.specs.FinMap as finite
use Rattle.checkpoint_offsets.specs.Offsets.{fault_from}
use Rattle.checkpoint_offsets.proofs.offsets.fault_from.Given as goal

abbrev pub invariant-loop-record : goal.invariant-loop-record
invariant-loop-record l = fault_from l.places l.at (drop l.record-index l.records) ≡ fault_from finite.empty l.begin l.records
