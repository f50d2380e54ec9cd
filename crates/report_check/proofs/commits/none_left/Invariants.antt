use Rattle.std.proofs.Common.{◌≡◌, [], drop}
use Rattle.report_check.proofs.Leaving.{Leaves}
use Rattle.report_check.proofs.commits.none_left.Given as goal

abbrev pub invariant-loop-trans : goal.invariant-loop-trans
invariant-loop-trans l = Leaves (λ q. q.items ≡ []) l.commits (drop l.trans-index l.commits)
