-- The last page of a page set that records change.
use Rattle.std.specs.Prelude.{◌≡◌, ℕ, ◌==◌, nat_lt, ◌&&◌, if◌then◌else◌, List, [], ◌∷◌, get_or}
use Rattle.ds_base.specs.declared.names.PageId.{PageId}
use Rattle.ds_model.specs.declared.log.LogRecord.{LogRecord}
use Rattle.page_format.specs.declared.patch.Patch.{Patch}
use Rattle.page_chain.specs.Chains.{changes_of}

-- the page's number, where it is the set's and greater
abbrev pub last_with : ℕ → ℕ → PageId → ℕ
last_with set last id = if (id.set == set) && nat_lt last id.number then id.number else last

abbrev pub last_in_patches : ℕ → ℕ → List Patch → ℕ
last_in_patches set last [] = last
last_in_patches set last (p ∷ ps) = last_in_patches set (last_with set last p.page) ps

-- the greatest number of a page of the set that the records change, or this one
abbrev pub last_in_records : ℕ → ℕ → List LogRecord → ℕ
last_in_records set last [] = last
last_in_records set last (r ∷ rs) = last_in_records set (last_in_patches set last (changes_of r.body)) rs

-- ---- by page set in a list

-- the numbers after these patches
abbrev pub AreRaised : List Patch → List ℕ → List ℕ → Type 0
AreRaised patches before after = (set : ℕ) → get_or after set 0 ≡ last_in_patches set (get_or before set 0) patches

abbrev pub AreLasts : List ℕ → List LogRecord → Type 0
AreLasts lasts records = (set : ℕ) → get_or lasts set 0 ≡ last_in_records set 0 records
