-- Whether patches leave each slot of a heap to the key to which it was given.
use Rattle.std.specs.Prelude.{◌≡◌, ℕ, ◌<◌, ◌==◌, nat_lt, Bool, true, false, if◌then◌else◌, List, ◌∷◌, ◌++◌, Option, None, Some}
use Rattle.std.specs.List.{AllByRecursion}
use Rattle.ds_base.specs.Ids.{IsTable}
use Rattle.ds_base.specs.Pages.{heap_page}
use Rattle.ds_base.specs.declared.names.PageId.{PageId}
use Rattle.ds_base.specs.declared.names.Place.{Place}
use Rattle.page_format.specs.Header.{slots_per_page}
use Rattle.page_format.specs.declared.patch.Patch.{Patch}
use Rattle.heap_space.specs.Slots.{content, slot_in}
use Rattle.page_images.specs.Images.{Images, after_change}
use Rattle.sound_disk.specs.Layouts.{count_in}
use Rattle.sound_disk.specs.Rows_there.{key_in, IsPlaceOf}

-- ---- a page

-- the key to which the slot was given, if it was
abbrev pub owner : List ℕ → ℕ → Option ℕ
owner page slot = if nat_lt slot (count_in page) then key_in (content (slot_in page slot)) else None

abbrev pub is_kept : Option ℕ → Option ℕ → Bool
is_kept None behind = true
is_kept (Some key) None = false
is_kept (Some key) (Some its) = its == key

-- of the first slots, so many, each that was given is the same key's on the page behind
abbrev pub OwnersStay : ℕ → List ℕ → List ℕ → Type 0
OwnersStay n before behind = (slot key : ℕ) → slot < n → owner before slot ≡ Some key → owner behind slot ≡ Some key

-- ---- patches

-- each slot of this page, if it is one of a heap, that was given is the same key's behind
abbrev pub StayOn : Images → Images → PageId → Type 0
StayOn before behind id = (table key : ℕ) (place : Place) → IsTable table → place.slot < slots_per_page → heap_page table place.page ≡ id → IsPlaceOf before table key place → IsPlaceOf behind table key place

-- the page of the first of the patches, of a change with this LRSN, behind all of which a slot there isn't its key's
pub record TakesSlots (at : Images) (lrsn : ℕ) (patches : List Patch) (id : PageId) : Type 0 where
  pub first : List Patch
  pub it : Patch
  pub rest : List Patch
  pub split : patches ≡ first ++ it ∷ rest
  pub before : AllByRecursion (λ (p : Patch). StayOn at (after_change lrsn patches at) p.page) first
  pub id_is : id ≡ it.page
  pub taken : StayOn at (after_change lrsn patches at) it.page → ⊥
