-- What is told of the first tables, so many, by the merged records.
use Rattle.std.specs.Prelude.{◌≡◌, ℕ, ◌+◌, ◌*◌, ◌≤◌, Bool, true, List, [], Option, None, Some}
use Rattle.ds_disk.specs.Contents.{Contents}
use Rattle.ds_disk.specs.Pages.{page_at}
use Rattle.ds_base.specs.declared.names.PageId.{PageId}
use Rattle.ds_model.specs.declared.log.LogRecord.{LogRecord}
use Rattle.page_images.specs.Images.{Images}
use Rattle.page_chain.specs.Chains.{images_of}
use Rattle.sound_disk.specs.Tables.{IsWholeTable}
use Rattle.sound_disk.specs.Versions.{merged}
use Rattle.disk_versions.specs.Placing.{AreInSets, IsFirstInSets}
use Rattle.disk_versions.specs.Told.{page_sets}
use Rattle.disk_walk.specs.Whole.{OfWholeLogs}
use Rattle.index_places.specs.Whole.{IsFirstUnwhole}
use Rattle.redone_pages.specs.declared.range.TableRange.{TableRange}
use Rattle.stood_rows.specs.declared.unstood.Unstood.{Unstood}
use Rattle.stood_rows.specs.Found.{AreFound}
use Rattle.row_turns.specs.declared.told.Told.{Told}
use Rattle.row_turns.specs.Scans.{AreTurnsTold}
use Rattle.row_turns.specs.Orders.{AreOrderly}
use Rattle.space_check.specs.declared.told.TablesTold.{TablesTold}
use Rattle.space_check.specs.declared.told.RangeFound.{RangeFound}
use Rattle.space_check.specs.declared.told.RangeFound.TheVariants as found

-- ---- clause by clause

-- each of them is whole, or this is the page that is named of the first that isn't
abbrev pub AreWholeUpTo : Images → List LogRecord → ℕ → Option PageId → Type 0
AreWholeUpTo at records tables None = (k : ℕ) → 1 ≤ k → k ≤ tables → IsWholeTable at records k
AreWholeUpTo at records tables (Some id) = IsFirstUnwhole at records id

-- as far as their pages go, no record is unstood, or this one is the first
pub record AreStoodUpTo (records : List LogRecord) (tables : ℕ) (first : Option Unstood) : Type 0 where
  pub has : PageId → Bool
  pub passes : (id : PageId) → 1 ≤ id.set → id.set ≤ 2 * tables → has id ≡ true
  pub found : AreFound has records first

-- as far as their rows go, no record is out of turn, or this one is the first
pub record AreTurnsUpTo (records : List LogRecord) (tables : ℕ) (t : Told) : Type 0 where
  pub has : ℕ → Bool
  pub passes : (k : ℕ) → 1 ≤ k → k ≤ tables → has k ≡ true
  pub only : (k : ℕ) → has k ≡ true → k ≤ tables
  pub told : AreTurnsTold has records t

-- ---- all of them

-- each page that is read of them may stand on the disk, and the rest is told so
pub record AreTablesTold (at : Images) (records : List LogRecord) (renews : Bool) (behind tables : ℕ) (t : TablesTold) : Type 0 where
  pub placed : AreInSets at records renews behind (2 * tables) t.pages
  pub whole : AreWholeUpTo (images_of records) records tables t.unwhole
  pub stood : AreStoodUpTo records tables t.unstood
  pub turns : AreTurnsUpTo records tables t.turns

-- nothing is told yet
abbrev pub IsNothingTold : TablesTold → Type 0
IsNothingTold t = (at : Images) (records : List LogRecord) (renews : Bool) (behind : ℕ) → AreTablesTold at records renews behind 0 t

-- ---- the tables of a range

-- behind all tables before them, by a scan of the records, of whose tables so many pages aren't all zeros
pub record AddsScan (range : TableRange) (early : Bool) (records : List LogRecord) (pages : ℕ) (old new : TablesTold) : Type 0 where
  pub pages_are : new.pages ≡ old.pages + pages
  pub whole : (n : ℕ) → range.first ≡ n + 1 → AreWholeUpTo (images_of records) records n old.unwhole → AreWholeUpTo (images_of records) records range.last new.unwhole
  pub stood : (n : ℕ) → range.first ≡ n + 1 → AreStoodUpTo records n old.unstood → AreStoodUpTo records range.last new.unstood
  pub turns : (n : ℕ) → range.first ≡ n + 1 → AreOrderly early [] records → AreTurnsUpTo records n old.turns → AreTurnsUpTo records range.last new.turns

-- what was told of all tables before these leads to what is told up to the last of them; or this is the first page of all that may
-- not stand on the disk
abbrev pub TellsMore : Images → List LogRecord → Bool → ℕ → TableRange → TablesTold → RangeFound → Type 0
TellsMore at records renews behind range old (found.Told new) = (n : ℕ) → range.first ≡ n + 1 → AreTablesTold at records renews behind n old → AreTablesTold at records renews behind range.last new
TellsMore at records renews behind range old (found.Unplaced id) = (n : ℕ) → range.first ≡ n + 1 → AreTablesTold at records renews behind n old → IsFirstInSets at records renews behind page_sets id

-- it holds of the merged records of the logs of a disk, if they are whole and their records end at these bytes, and keep to their order
abbrev pub OfOrderly : Bool → List ℕ → (List LogRecord → Type 0) → Contents → Type 0
OfOrderly early ends P c = OfWholeLogs ends (λ logs. AreOrderly early [] (merged logs) → P (merged logs)) c

abbrev pub TellsRange : Bool → List ℕ → Bool → ℕ → TableRange → TablesTold → RangeFound → Contents → Type 0
TellsRange early ends renews behind range old found c = OfOrderly early ends (λ records. TellsMore (page_at c.pages) records renews behind range old found) c

-- ---- all tables

-- what is told of the first so many, of which each page may stand
abbrev pub TellsUpTo : Bool → List ℕ → Bool → ℕ → ℕ → TablesTold → Contents → Type 0
TellsUpTo early ends renews behind tables t c = OfOrderly early ends (λ records. AreTablesTold (page_at c.pages) records renews behind tables t) c

-- what is told of all; or this is the first page that may not stand on the disk
abbrev pub IsAllTold : Images → List LogRecord → Bool → ℕ → RangeFound → Type 0
IsAllTold at records renews behind (found.Told t) = AreTablesTold at records renews behind 64 t
IsAllTold at records renews behind (found.Unplaced id) = IsFirstInSets at records renews behind page_sets id

abbrev pub TellsAll : Bool → List ℕ → Bool → ℕ → RangeFound → Contents → Type 0
TellsAll early ends renews behind found c = OfOrderly early ends (λ records. IsAllTold (page_at c.pages) records renews behind found) c
