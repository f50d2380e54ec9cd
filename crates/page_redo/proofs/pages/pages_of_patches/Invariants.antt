use Rattle.std.proofs.Common.{◌≡◌, [], drop}
use Rattle.page_redo.specs.Pages.{pages_from}
use Rattle.page_redo.proofs.pages.pages_of_patches.Given as goal

abbrev pub invariant-loop-patch : goal.invariant-loop-patch
invariant-loop-patch l = pages_from l.pages (drop l.patch-index l.patches) ≡ pages_from [] l.patches
