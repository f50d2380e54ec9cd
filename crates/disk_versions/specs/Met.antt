-- The pages of a disk beside what records so far have made of pages of zeros: which of them they have made.
use Rattle.std.specs.Prelude.{◌≡◌, ◌↔◌, ℕ, Bool, true, false, ◌||◌, cond, if◌then◌else◌, List, [], ◌∷◌, ◌++◌, Option, None, Some, is_some, IsTrue}
use Rattle.std.specs.Str.{bytes_eq}
use Rattle.std.specs.List.{list_any}
use Rattle.std.specs.Map.{lookup}
use Rattle.std.specs.BTreeMap.{is_at}
use Rattle.ds_base.specs.declared.names.PageId.{PageId}
use Rattle.ds_model.specs.declared.log.LogRecord.{LogRecord}
use Rattle.page_format.specs.Fields.{lrsn_of}
use Rattle.page_images.specs.Images.{Images, zeros}
use Rattle.page_chain.specs.Chains.{touches, IsVersion}
use Rattle.page_redo.specs.Pages.{has_page}
use Rattle.page_records.specs.Pages.{page_cmp}
use Rattle.sound_disk.specs.Versions.{current}
use Rattle.redone_pages.specs.Ranges.{HasPage}
use Rattle.disk_versions.specs.declared.met.Mark.{Mark}
use Rattle.disk_versions.specs.declared.met.MetPages.{MetPages}

-- ---- one page

-- the mark bears the page's number, and is met where the page is a version by the records; or by the first so many of them, or by
-- more, as far as it is known
pub record IsMarked (id : PageId) (first records : List LogRecord) (page : List ℕ) (m : Mark) : Type 0 where
  pub number : m.lrsn ≡ lrsn_of (current page)
  pub before : IsVersion id first (current page) → IsTrue m.is_met
  pub behind : IsTrue m.is_met → IsVersion id records (current page)

-- a page without a mark is changed by none of the records
abbrev pub IsKnown : PageId → List LogRecord → List LogRecord → List ℕ → Option Mark → Type 0
IsKnown id first records page None = list_any (touches id) records ≡ false
IsKnown id first records page (Some m) = IsMarked id first records page m

-- ---- all pages of the tables

abbrev pub mark_of : MetPages → PageId → Option Mark
mark_of m id = lookup (is_at (page_cmp id)) m.marks.entries

-- each is known: these by all records, and the others by the first of them
abbrev pub AreMetOn : Images → MetPages → List LogRecord → List PageId → Type 0
AreMetOn at m first pages = (id : PageId) → HasPage m.made.range id → IsKnown id (if has_page pages id then m.made.records else first) m.made.records (at id) (mark_of m id)

-- each is known by all records
abbrev pub AreMet : Images → MetPages → Type 0
AreMet at m = (id : PageId) → HasPage m.made.range id → IsKnown id m.made.records m.made.records (at id) (mark_of m id)

-- ---- steps

-- the page has this mark now
abbrev pub IsPut : PageId → Mark → MetPages → MetPages → Type 0
IsPut id mark old new = (q : PageId) → mark_of new q ≡ cond (is_at (page_cmp id) q) (Some mark) (mark_of old q)

-- marks stay, and these pages have some
pub record HaveMarks (pages : List PageId) (old new : MetPages) : Type 0 where
  pub stay : (id : PageId) → is_some (mark_of old id) ≡ true → is_some (mark_of new id) ≡ true
  pub there : (id : PageId) → HasPage old.made.range id → has_page pages id ≡ true → is_some (mark_of new id) ≡ true

-- what a page is marked by before a record changes it
pub record IsFresh (page : List ℕ) (m : Mark) : Type 0 where
  pub number : m.lrsn ≡ lrsn_of (current page)
  pub met : IsTrue m.is_met ↔ (current page ≡ zeros)

-- whether the page on disk, which bears this number, is now the one that was made
abbrev pub IsSameNow : List ℕ → List ℕ → ℕ → Bool → Type 0
IsSameNow image page lrsn same = lrsn ≡ lrsn_of (current page) → same ≡ bytes_eq image (current page)

-- whether it is, or was by its mark
abbrev pub IsMetNow : List ℕ → List ℕ → Mark → Bool → Type 0
IsMetNow image page m met = m.lrsn ≡ lrsn_of (current page) → met ≡ (m.is_met || bytes_eq image (current page))

abbrev pub IsNextMark : List ℕ → List ℕ → Mark → Mark → Type 0
IsNextMark image page m next = (next.lrsn ≡ m.lrsn) × IsMetNow image page m next.is_met

-- where the others are known by all records but the last, so are these also by all of them
abbrev pub MeetsAlso : Images → List PageId → MetPages → MetPages → Type 0
MeetsAlso at ids old new =
    (first : List LogRecord) (it : LogRecord) (pages : List PageId) → old.made.records ≡ first ++ it ∷ [] → AreMetOn at old first pages → AreMetOn at new first (pages ++ ids)
