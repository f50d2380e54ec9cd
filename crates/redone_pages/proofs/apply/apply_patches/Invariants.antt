use Rattle.redone_pages.proofs.Kept.{IsLeft}
use Rattle.redone_pages.proofs.apply.apply_patches.Given as goal

abbrev pub invariant-loop-patch : goal.invariant-loop-patch
invariant-loop-patch l = IsLeft l.range l.lrsn l.patches l.patch-index l.fn.pages.entries l.pages.entries
