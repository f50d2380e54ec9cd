use Rattle.std.proofs.Common.{◌≡◌, ◌+◌, drop}
use Rattle.log_heads.specs.Heads.{first_stop}
use Rattle.log_heads.proofs.scan.first_stop.Given as goal

abbrev pub invariant-loop-place : goal.invariant-loop-place
invariant-loop-place l = first_stop l.block (l.place + 1) (drop l.place l.heads) ≡ first_stop l.block 1 l.heads
