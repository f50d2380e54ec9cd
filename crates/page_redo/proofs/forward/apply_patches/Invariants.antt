use Rattle.std.proofs.Common.{◌≡◌, false, ◌||◌, filter, drop}
use Rattle.heap_space.specs.Written.{written}
use Rattle.page_redo.specs.Forward.{lies_in_page, has_patch}
use Rattle.page_redo.proofs.forward.apply_patches.Given as goal

abbrev pub invariant-loop-patch : goal.invariant-loop-patch
invariant-loop-patch l =
    (written l.id l.lrsn (filter lies_in_page (drop l.patch-index l.patches)) l.page ≡ written l.id l.lrsn (filter lies_in_page l.patches) l.fn.page)
    × ((l.has_one || has_patch l.id (filter lies_in_page (drop l.patch-index l.patches))) ≡ has_patch l.id (filter lies_in_page l.patches))
    × (l.has_one ≡ false → l.page ≡ l.fn.page)
