-- Where the seventh clause of a sound disk doesn't hold.
use Rattle.std.specs.Prelude.{◌≡◌, ◌⊎◌, ℕ, List, map, Option, None, Some}
use Rattle.ds_disk.specs.Contents.{Contents}
use Rattle.ds_disk.specs.Pages.{page_at}
use Rattle.ds_base.specs.declared.names.PageId.{PageId}
use Rattle.disk_spots.specs.declared.spot.Spot.{Spot}
use Rattle.disk_spots.specs.declared.spot.Spot.TheVariants as spot
use Rattle.log_record.specs.declared.log.Log.{Log}
use Rattle.page_images.specs.Images.{Images}
use Rattle.sound_disk.specs.Checkpoints.{AreCheckpointed}
use Rattle.sound_disk.specs.Transactions.{AreTransactions}
use Rattle.sound_disk.specs.Whole_logs.{AreWholeLogs}
use Rattle.kept_checkpoints.specs.Needs.{needs_of}
use Rattle.kept_checkpoints.specs.Offsets.{OffsetsFit, bad_spot}
use Rattle.kept_pages.specs.Unmet.{IsFirstUnmet}

abbrev pub page_spot : Option PageId → Option Spot
page_spot None = None
page_spot (Some id) = Some (spot.Page id)

-- all offsets fit, and this is the first page that doesn't meet what the records before them need
abbrev pub IsUnmetPage : Images → List Log → Spot → Type 0
IsUnmetPage at logs (spot.Page id) = OffsetsFit logs × IsFirstUnmet at (needs_of logs) id
IsUnmetPage at logs (spot.Log member place) = ⊥

-- the clause doesn't hold, and this is the first Checkpoint whose offset may not stand there, or else the first such page
pub record IsUnkept (at : Images) (logs : List Log) (s : Spot) : Type 0 where
  pub lacking : AreCheckpointed at logs → ⊥
  pub spot_is : (bad_spot logs ≡ Some s) ⊎ IsUnmetPage at logs s

-- the clause holds, or it doesn't at this spot
abbrev pub AreKept : Images → List Log → Option Spot → Type 0
AreKept at logs None = AreCheckpointed at logs
AreKept at logs (Some s) = IsUnkept at logs s

-- so of the logs of a disk, if they are whole, their records end at these bytes, and those of transactions fit each other
abbrev pub IsKeptTold : List ℕ → Option Spot → Contents → Type 0
IsKeptTold ends found c = (logs : List Log) → AreWholeLogs 1 c.logs logs → ends ≡ map (λ (l : Log). l.length) logs → AreTransactions logs → AreKept (page_at c.pages) logs found
