-- Which patches a change writes to a page.
use Rattle.std.proofs.Common.{◌≡◌, ℕ, Bool, true, false, if◌then◌else◌, List, [], ◌∷◌, ◌++◌, refl, ap, ◌∙◌}
use Rattle.ds_base.specs.declared.names.PageId.{PageId}
use Rattle.page_format.specs.declared.patch.Patch.{Patch}
use Rattle.ds_base.specs.Pages.{same_page}
use Rattle.heap_space.specs.Written.{after_patch, written}
use Rattle.index_leaf.specs.Nodes.{all_stamped, patches_for}
use Rattle.page_images.specs.Images.{IsFree}

choice : (b : Bool) (id : PageId) (lrsn : ℕ) (p : Patch) (ps : List Patch) (page : List ℕ)
    → ((after : List ℕ) → written id lrsn ps after ≡ all_stamped lrsn after (patches_for id ps))
    → written id lrsn ps (if b then after_patch lrsn page p else page) ≡ all_stamped lrsn page (if b then p ∷ patches_for id ps else patches_for id ps)
choice true id lrsn p ps page h = h (after_patch lrsn page p)
choice false id lrsn p ps page h = h page

pub stamped : (id : PageId) (lrsn : ℕ) (ps : List Patch) (page : List ℕ) → written id lrsn ps page ≡ all_stamped lrsn page (patches_for id ps)
stamped id lrsn [] page = refl
stamped id lrsn (p ∷ ps) page = choice (same_page p.page id) id lrsn p ps page (λ after. stamped id lrsn ps after)

pub both : (id : PageId) (lrsn : ℕ) (ps qs : List Patch) (page : List ℕ) → written id lrsn (ps ++ qs) page ≡ written id lrsn qs (written id lrsn ps page)
both id lrsn [] qs page = refl
both id lrsn (p ∷ ps) qs page = both id lrsn ps qs (if same_page p.page id then after_patch lrsn page p else page)

pub free : (id : PageId) (lrsn : ℕ) (ps : List Patch) (page : List ℕ) → IsFree id ps → written id lrsn ps page ≡ page
free id lrsn [] page h = refl
free id lrsn (p ∷ ps) page h =
    ap (λ (b : Bool). written id lrsn ps (if b then after_patch lrsn page p else page)) h.0
    ∙ free id lrsn ps page h.1

pub free_both : (id : PageId) (ps qs : List Patch) → IsFree id ps → IsFree id qs → IsFree id (ps ++ qs)
free_both id [] qs h k = k
free_both id (p ∷ ps) qs h k = (h.0, free_both id ps qs h.1 k)
