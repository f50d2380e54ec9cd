use Rattle.std.proofs.Common.{◌≡◌, ◌++◌}
use Rattle.page_plans.proofs.patches.append.Given as goal

abbrev pub invariant-loop-patch : goal.invariant-loop-patch
invariant-loop-patch l = l.patches ≡ l.fn.patches ++ l.yielded
