-- Branches and leaves: what each keeps to, and what they are after an insertion, a split and the stamp of a change.
use Rattle.std.specs.Prelude.{◌≡◌, ℕ, ◌+◌, ◌^◌, ◌<◌, ◌≤◌, leb, Bool, true, false, if◌then◌else◌, List, [], ◌∷◌, length, slice_index, Contains, None}
use Rattle.ds_base.specs.Pages.{same_page}
use Rattle.ds_base.specs.declared.names.PageId.{PageId}
use Rattle.page_format.specs.Fields.{page_size, kind_at, patched, set_lrsn}
use Rattle.page_format.specs.Header.{entries_per_page}
use Rattle.page_format.specs.declared.patch.Patch.{Patch}
use Rattle.index_leaf.specs.declared.layout.Entry.{Entry}
use Rattle.index_leaf.specs.Entries.{count_of, low_of, high_of, right_field, entries_of, IsRising}
use Rattle.index_leaf.specs.Search.{is_beyond}
use Rattle.index_leaf.specs.Changes.{entered, low_of_split}

-- the keys rise, from the low key on and below the high key
pub record IsNode (page : List ℕ) : Type 0 where
  pub whole : length page ≡ page_size
  pub room : count_of page ≤ entries_per_page
  pub rising : IsRising (entries_of page)
  pub from_low : (e : Entry) → Contains (entries_of page) e → low_of page ≤ e.key
  pub below_high : (e : Entry) → Contains (entries_of page) e → is_beyond (high_of page) e.key ≡ false

-- ---- the stamp of a change

-- the page after these patches, each of which stamps it with the LRSN of the change
abbrev pub all_stamped : ℕ → List ℕ → List Patch → List ℕ
all_stamped lrsn page [] = page
all_stamped lrsn page (p ∷ ps) = all_stamped lrsn (set_lrsn (patched page p.offset p.bytes) lrsn) ps

-- the patch lies in the page
abbrev pub LiesInPage : Patch → Type 0
LiesInPage p = p.offset + length p.bytes ≤ page_size

abbrev pub AllLieInPage : List Patch → Type 0
AllLieInPage [] = Unit {0}
AllLieInPage (p ∷ ps) = LiesInPage p × AllLieInPage ps

-- all that a search reads of the page is as it was
pub record ReadsAs (page new : List ℕ) : Type 0 where
  pub kind : slice_index new kind_at ≡ slice_index page kind_at
  pub entries : entries_of new ≡ entries_of page
  pub low_key : low_of new ≡ low_of page
  pub high_key : high_of new ≡ high_of page
  pub right_page : right_field new ≡ right_field page

-- ---- an insertion

-- the page has room, and the fields of the entry fit theirs
pub record CanTake (page : List ℕ) (e : Entry) : Type 0 where
  pub whole : length page ≡ page_size
  pub room : count_of page < entries_per_page
  pub key : e.key < 2 ^ 64
  pub leads_to : e.place.page < 2 ^ 32
  pub slot : e.place.slot < 2 ^ 16

-- the page has one entry more, and all else as it was
pub record HasTaken (page new : List ℕ) (e : Entry) : Type 0 where
  pub whole : length new ≡ page_size
  pub kind : slice_index new kind_at ≡ slice_index page kind_at
  pub entries : entries_of new ≡ entered (entries_of page) e
  pub low_key : low_of new ≡ low_of page
  pub high_key : high_of new ≡ high_of page
  pub right_page : right_field new ≡ right_field page

-- whether no entry has a key above the first and not above the second
abbrev pub none_within : List Entry → ℕ → ℕ → Bool
none_within [] after upto = true
none_within (x ∷ xs) after upto =
    if leb x.key after then none_within xs after upto
    else if leb x.key upto then false
    else none_within xs after upto

-- ---- a split

-- the page is full, and the key from which the right page is to have the entries fits its field
pub record CanSplit (left : List ℕ) : Type 0 where
  pub whole : length left ≡ page_size
  pub full : count_of left ≡ entries_per_page
  pub low : low_of_split left < 2 ^ 64

-- ---- a new index

-- those of the patches that are for this page
abbrev pub patches_for : PageId → List Patch → List Patch
patches_for id [] = []
patches_for id (p ∷ ps) = if same_page p.page id then p ∷ patches_for id ps else patches_for id ps

-- a page of this kind with these entries, whose low key is 0 and which has no high key and no page to its right
pub record IsFirst (page : List ℕ) (kind : ℕ) (es : List Entry) : Type 0 where
  pub whole : length page ≡ page_size
  pub is_of : slice_index page kind_at ≡ kind
  pub entries : entries_of page ≡ es
  pub low_key : low_of page ≡ 0
  pub high_key : high_of page ≡ None
  pub right_page : right_field page ≡ 0
