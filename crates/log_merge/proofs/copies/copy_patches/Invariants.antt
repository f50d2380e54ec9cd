use Rattle.std.proofs.Common.{◌≡◌, ◌++◌, drop}
use Rattle.log_merge.proofs.copies.copy_patches.Given as goal

abbrev pub invariant-loop-patch : goal.invariant-loop-patch
invariant-loop-patch l = l.copied ++ drop l.patch-index l.patches ≡ l.patches
