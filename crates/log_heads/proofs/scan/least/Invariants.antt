use Rattle.std.proofs.Common.{◌≡◌, ◌≤◌, length, drop}
use Rattle.log_heads.specs.Heads.{least_from}
use Rattle.log_heads.proofs.scan.least.Given as goal

abbrev pub invariant-loop-place : goal.invariant-loop-place
invariant-loop-place l = (l.place ≤ length l.heads) × (l.least ≡ least_from l.place (drop l.place l.heads))

abbrev pub decreases-loop-place : goal.decreases-loop-place
decreases-loop-place l = l.place
