use Rattle.std.proofs.Common.{◌≡◌, drop}
use Rattle.checkpoint_offsets.specs.Offsets.{all_own}
use Rattle.checkpoint_offsets.proofs.offsets.all_own.Given as goal

abbrev pub invariant-loop-record : goal.invariant-loop-record
invariant-loop-record l = all_own l.at (drop l.record-index l.records) ≡ all_own l.begin l.records
