-- What is found of pages, of page sets and of the first so many page sets.
use Rattle.std.specs.Prelude.{◌≡◌, ◌↔◌, ℕ, zero, suc, ◌+◌, ◌<◌, ◌≤◌, Bool, not, if◌then◌else◌, List, IsTrue}
use Rattle.ds_base.specs.declared.names.PageId.{PageId}
use Rattle.ds_model.specs.declared.log.LogRecord.{LogRecord}
use Rattle.page_format.specs.Header.{is_zeros}
use Rattle.page_images.specs.Images.{Images}
use Rattle.page_versions.specs.Fronts.{IsPlaced}
use Rattle.disk_versions.specs.Ends.{page_of, pages_read, IsRead}
use Rattle.disk_versions.specs.declared.page.Judged.{Judged}
use Rattle.disk_versions.specs.declared.set.Placing.{Placing}
use Rattle.disk_versions.specs.declared.set.Placing.TheVariants as placing

-- ---- a page

pub record IsJudged (id : PageId) (records : List LogRecord) (renews : Bool) (page : List ℕ) (j : Judged) : Type 0 where
  pub placed : IsTrue j.is_placed ↔ IsPlaced id records renews page
  pub written : j.is_written ≡ not (is_zeros page)

-- ---- a page set

abbrev pub count_with : ℕ → Bool → ℕ
count_with pages is_written = if is_written then pages + 1 else pages

-- how many of the first so many pages of the set aren't all zeros
abbrev pub written_in : Images → ℕ → ℕ → ℕ
written_in at set zero = 0
written_in at set (suc n) = count_with (written_in at set n) (not (is_zeros (at (page_of set n))))

-- the first so many pages of the set may stand there
abbrev pub AreUpTo : Images → List LogRecord → Bool → ℕ → ℕ → Type 0
AreUpTo at records renews set end = (n : ℕ) → n < end → IsPlaced (page_of set n) records renews (at (page_of set n))

pub record AreInSet (at : Images) (records : List LogRecord) (renews : Bool) (set end pages : ℕ) : Type 0 where
  pub each : AreUpTo at records renews set end
  pub count : pages ≡ written_in at set end

pub record IsFirstInSet (at : Images) (records : List LogRecord) (renews : Bool) (set end : ℕ) (id : PageId) : Type 0 where
  pub set_is : id.set ≡ set
  pub number_in : id.number < end
  pub wrong : IsPlaced id records renews (at id) → ⊥
  pub before : AreUpTo at records renews set id.number

abbrev pub IsSetTold : Images → List LogRecord → Bool → ℕ → ℕ → Placing → Type 0
IsSetTold at records renews set end (placing.All pages) = AreInSet at records renews set end pages
IsSetTold at records renews set end (placing.Unplaced id) = IsFirstInSet at records renews set end id

-- no more pages were counted
abbrev pub IsCountUpTo : ℕ → Placing → Type 0
IsCountUpTo most (placing.All pages) = pages ≤ most
IsCountUpTo most (placing.Unplaced id) = Unit {0}

-- ---- the first so many page sets

-- how many of the pages that are read aren't all zeros
abbrev pub written_through : Images → List LogRecord → ℕ → ℕ → ℕ
written_through at records behind zero = 0
written_through at records behind (suc n) = written_through at records behind n + written_in at (suc n) (pages_read at records behind (suc n))

-- each page that is read of these page sets may stand there
abbrev pub AreThrough : Images → List LogRecord → Bool → ℕ → ℕ → Type 0
AreThrough at records renews behind sets = (id : PageId) → IsRead at records behind sets id → IsPlaced id records renews (at id)

pub record AreInSets (at : Images) (records : List LogRecord) (renews : Bool) (behind sets pages : ℕ) : Type 0 where
  pub each : AreThrough at records renews behind sets
  pub count : pages ≡ written_through at records behind sets

pub record IsFirstInSets (at : Images) (records : List LogRecord) (renews : Bool) (behind sets : ℕ) (id : PageId) : Type 0 where
  pub read : IsRead at records behind sets id
  pub wrong : IsPlaced id records renews (at id) → ⊥
  pub before : (n : ℕ) → n < id.number → IsPlaced (page_of id.set n) records renews (at (page_of id.set n))
  pub sets_before : (other : PageId) → other.set < id.set → IsRead at records behind sets other → IsPlaced other records renews (at other)

abbrev pub AreSetsTold : Images → List LogRecord → Bool → ℕ → ℕ → Placing → Type 0
AreSetsTold at records renews behind sets (placing.All pages) = AreInSets at records renews behind sets pages
AreSetsTold at records renews behind sets (placing.Unplaced id) = IsFirstInSets at records renews behind sets id
