-- The patch that formats a page of rows.
use Rattle.std.proofs.Common.{◌≡◌, ℕ, List, [], ◌∷◌, ap, if◌then◌else◌, ◌==◌}
use Rattle.ds_base.specs.declared.names.Place.{Place}
use Rattle.page_format.specs.declared.patch.Patch.{Patch}
use Rattle.ds_base.specs.Pages.{heap_page}
use Rattle.heap_space.specs.Changes.{front_patch, front_patches}

-- the first slot of a page comes with it
pub front_there : (table : ℕ) (place : Place) → place.slot ≡ 0 → front_patches table place ≡ front_patch 2 (heap_page table place.page) ∷ []
front_there table place first =
    let patches : List Patch = front_patch 2 (heap_page table place.page) ∷ [] in
    ap (λ (slot : ℕ). if slot == 0 then patches else []) first
