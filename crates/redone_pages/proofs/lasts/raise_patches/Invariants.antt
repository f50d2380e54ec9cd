use Rattle.redone_pages.proofs.Raised.{AreLeft}
use Rattle.redone_pages.proofs.lasts.raise_patches.Given as goal

abbrev pub invariant-loop-patch : goal.invariant-loop-patch
invariant-loop-patch l = AreLeft l.patches l.patch-index l.fn.lasts l.lasts
