-- What is told of the third clause of a sound disk.
use Rattle.std.specs.Prelude.{◌≡◌, ◌⊎◌, ℕ, ◌<◌, Bool, List}
use Rattle.ds_base.specs.declared.names.PageId.{PageId}
use Rattle.ds_model.specs.declared.log.LogRecord.{LogRecord}
use Rattle.log_record.specs.declared.log.Log.{Log}
use Rattle.page_images.specs.Images.{Images, zeros}
use Rattle.restart_plan.specs.Renewal.{must_renew}
use Rattle.sound_disk.specs.Versions.{merged, MayStand, AreVersions}
use Rattle.disk_versions.specs.Ends.{IsRead}
use Rattle.disk_versions.specs.Placing.{written_through, AreInSets}
use Rattle.disk_versions.specs.declared.set.Placing.{Placing}
use Rattle.disk_versions.specs.declared.set.Placing.TheVariants as placing

-- the page sets of a group are numbered from 1 to this
abbrev pub page_sets : ℕ
page_sets = 128

abbrev pub IsReadOf : Images → List Log → ℕ → PageId → Type 0
IsReadOf at logs behind id = IsRead at (merged logs) behind page_sets id

-- every page past those that are read is zeros
abbrev pub RestIsZeros : Images → List Log → ℕ → Type 0
RestIsZeros at logs behind = (id : PageId) → (IsReadOf at logs behind id → ⊥) → at id ≡ zeros

-- by page set, and then by number
abbrev pub IsBefore : PageId → PageId → Type 0
IsBefore a b = (a.set < b.set) ⊎ ((a.set ≡ b.set) × (a.number < b.number))

-- each page that is read may stand there, so all do where the rest is zeros; and so many aren't all zeros
pub record AreAllPlaced (at : Images) (logs : List Log) (behind pages : ℕ) : Type 0 where
  pub versions : RestIsZeros at logs behind → AreVersions at logs
  pub read : (id : PageId) → IsReadOf at logs behind id → MayStand logs id (at id)
  pub count : pages ≡ written_through at (merged logs) behind page_sets

-- the page may not stand there, and is the first of those that are read
pub record IsFirstUnplaced (at : Images) (logs : List Log) (behind : ℕ) (id : PageId) : Type 0 where
  pub wrong : MayStand logs id (at id) → ⊥
  pub is_read : IsReadOf at logs behind id
  pub first : (other : PageId) → IsBefore other id → IsReadOf at logs behind other → MayStand logs other (at other)

abbrev pub IsTold : Images → List Log → ℕ → Placing → Type 0
IsTold at logs behind (placing.All pages) = AreAllPlaced at logs behind pages
IsTold at logs behind (placing.Unplaced id) = IsFirstUnplaced at logs behind id
