use Rattle.std.proofs.Common.{◌≡◌, drop}
use Rattle.checkpoint_offsets.specs.Offsets.{offset_damage}
use Rattle.checkpoint_offsets.proofs.offsets.find_wrong_offset.Given as goal

abbrev pub invariant-loop-log : goal.invariant-loop-log
invariant-loop-log l = offset_damage (drop l.log-index l.logs) ≡ offset_damage l.logs
