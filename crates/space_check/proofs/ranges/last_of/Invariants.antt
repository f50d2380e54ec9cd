use Rattle.std.proofs.Common.{◌<◌, ◌≤◌, ◌-◌}
use Rattle.space_check.proofs.ranges.last_of.Given as goal

abbrev pub invariant-loop-last : goal.invariant-loop-last
invariant-loop-last l = (l.before < l.last) × (l.last ≤ 64)

abbrev pub decreases-loop-last : goal.decreases-loop-last
decreases-loop-last l = 64 - l.last
