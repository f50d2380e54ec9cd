-- A page after patches, those of other pages left out.
use Rattle.std.specs.Prelude.{ℕ, if◌then◌else◌, List, [], ◌∷◌}
use Rattle.ds_base.specs.Pages.{same_page}
use Rattle.ds_base.specs.declared.names.PageId.{PageId}
use Rattle.page_format.specs.Fields.{patched, set_lrsn}
use Rattle.page_format.specs.declared.patch.Patch.{Patch}

-- the page after one patch of a change with this LRSN
abbrev pub after_patch : ℕ → List ℕ → Patch → List ℕ
after_patch lrsn page patch = set_lrsn (patched page patch.offset patch.bytes) lrsn

-- the page of this name after the patches of such a change, in their order
abbrev pub written : PageId → ℕ → List Patch → List ℕ → List ℕ
written id lrsn [] page = page
written id lrsn (patch ∷ rest) page = written id lrsn rest (if same_page patch.page id then after_patch lrsn page patch else page)
