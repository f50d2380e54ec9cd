-- Parts of pages, and patches that lie in them.
use Rattle.std.specs.Prelude.{◌≡◌, ℕ, ◌+◌, ◌≤◌, ◌⊎◌, List, [], ◌∷◌, take, drop, length}
use Rattle.ds_base.specs.Ids.{lrsn_width}
use Rattle.page_format.specs.Fields.{page_size, version_at, lrsn_at}
use Rattle.page_format.specs.declared.patch.Patch.{Patch}
use Rattle.page_images.specs.Images.{front_width}

-- so many bytes from an offset on
abbrev pub part : ℕ → ℕ → List ℕ → List ℕ
part at width page = take width (drop at page)

-- the first bytes, so many from the first offset on, and the other ones have none in common
abbrev pub AreApart : ℕ → ℕ → ℕ → ℕ → Type 0
AreApart at width other count = (at + width ≤ other) ⊎ (other + count ≤ at)

-- the bytes are not those of the stamp: the version and the number
abbrev pub IsOffStamp : ℕ → ℕ → Type 0
IsOffStamp at width = AreApart at width version_at 1 × AreApart at width lrsn_at lrsn_width

-- the patch lies in the page
pub record Lies (page : List ℕ) (patch : Patch) : Type 0 where
  pub whole : length page ≡ page_size
  pub within : patch.offset + length patch.bytes ≤ page_size

-- each patch lies in a page, behind its front
abbrev pub AreBehindFront : List Patch → Type 0
AreBehindFront [] = Unit {0}
AreBehindFront (p ∷ ps) = ((front_width ≤ p.offset) × (p.offset + length p.bytes ≤ page_size)) × AreBehindFront ps

-- each patch lies in a page
abbrev pub AreWithin : List Patch → Type 0
AreWithin [] = Unit {0}
AreWithin (p ∷ ps) = (p.offset + length p.bytes ≤ page_size) × AreWithin ps
