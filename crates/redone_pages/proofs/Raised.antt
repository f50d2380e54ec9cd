-- The last page of each page set, one change after the other.
use Rattle.std.proofs.Common.{◌≡◌, ℕ, List, get_or, drop}
use Rattle.page_format.specs.declared.patch.Patch.{Patch}
use Rattle.redone_pages.specs.Lasts.{last_in_patches}

-- the rest of the changes leads from these numbers to where all lead from those
abbrev pub AreLeft : List Patch → ℕ → List ℕ → List ℕ → Type 0
AreLeft ps k ls ms = (s : ℕ) → last_in_patches s (get_or ms s 0) (drop k ps) ≡ last_in_patches s (get_or ls s 0) ps
