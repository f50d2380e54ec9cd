-- The clauses of a sound disk, and how each of them fails.
use Rattle.std.specs.Prelude.{◌⊎◌, ℕ, List}
use Rattle.ds_base.specs.declared.names.PageId.{PageId}
use Rattle.ds_model.specs.declared.log.LogRecord.{LogRecord}
use Rattle.disk_spots.specs.declared.spot.Spot.{Spot}
use Rattle.disk_spots.specs.declared.spot.Spot.TheVariants as spot
use Rattle.log_record.specs.declared.log.Log.{Log}
use Rattle.page_images.specs.Images.{Images}
use Rattle.page_chain.specs.Chains.{images_of}
use Rattle.sound_disk.specs.Transactions.{AreTransactions}
use Rattle.sound_disk.specs.Versions.{merged, MayStand}
use Rattle.sound_disk.specs.Tables.{AreTables}
use Rattle.sound_disk.specs.Turns.{ChangeInTurn}
use Rattle.sound_disk.specs.Numbers_left.{NumbersAreLeft}
use Rattle.fitting_records.specs.Breaches.{IsRecordOf, IsFirstBreach}
use Rattle.disk_versions.specs.Told.{IsReadOf, IsFirstUnplaced}
use Rattle.index_places.specs.Whole.{AreAllWhole, IsFirstUnwhole}
use Rattle.stood_rows.specs.Standing.{IsFirstUnstood}
use Rattle.row_turns.specs.Out.{IsOutOfTurn}
use Rattle.settled_changes.specs.Spots.{LackNumbers}
use Rattle.kept_pages.specs.Unkept.{IsUnkept}
use Rattle.space_check.specs.declared.verdict.Clause.{Clause}
use Rattle.space_check.specs.declared.verdict.Clause.TheVariants as clause
use Rattle.space_check.specs.declared.verdict.Breach.{Breach}

abbrev pub number_of : Clause → ℕ
number_of clause.WholeLogs = 1
number_of clause.Transactions = 2
number_of clause.Versions = 3
number_of clause.Tables = 4
number_of clause.Turns = 5
number_of clause.Numbers = 6
number_of clause.Checkpoints = 7

abbrev pub IsPageOf : (PageId → Type 0) → Spot → Type 0
IsPageOf P (spot.Page id) = P id
IsPageOf P (spot.Log member at) = ⊥

-- each page that is read may stand there
abbrev pub ArePlaced : Images → List Log → ℕ → Type 0
ArePlaced at logs behind = (id : PageId) → IsReadOf at logs behind id → MayStand logs id (at id)

-- of whole logs and the pages that are read, each clause before this one holds
abbrev pub HoldBefore : Clause → Images → List Log → ℕ → Type 0
HoldBefore clause.WholeLogs at logs behind = Unit {0}
HoldBefore clause.Transactions at logs behind = Unit {0}
HoldBefore clause.Versions at logs behind = AreTransactions logs
HoldBefore clause.Tables at logs behind = AreTransactions logs × ArePlaced at logs behind
HoldBefore clause.Turns at logs behind = AreTransactions logs × ArePlaced at logs behind × AreTables logs
HoldBefore clause.Numbers at logs behind = AreTransactions logs × ArePlaced at logs behind × AreTables logs × ChangeInTurn logs
HoldBefore clause.Checkpoints at logs behind = AreTransactions logs × ArePlaced at logs behind × AreTables logs × ChangeInTurn logs × NumbersAreLeft logs

-- the page is the one that is named of the first table that isn't whole; where each is, that of the first record that didn't meet its row
abbrev pub IsTablesPage : List LogRecord → PageId → Type 0
IsTablesPage records id = IsFirstUnwhole (images_of records) records id ⊎ (AreAllWhole (images_of records) records × IsFirstUnstood records id)

-- the clause fails, and this is its first spot. The first doesn't fail of whole logs
abbrev pub Fails : Clause → Images → List Log → ℕ → Spot → Type 0
Fails clause.WholeLogs at logs behind s = ⊥
Fails clause.Transactions at logs behind s = (AreTransactions logs → ⊥) × IsRecordOf (IsFirstBreach AreTransactions logs) s
Fails clause.Versions at logs behind s = IsPageOf (IsFirstUnplaced at logs behind) s
Fails clause.Tables at logs behind s = (AreTables logs → ⊥) × IsPageOf (IsTablesPage (merged logs)) s
Fails clause.Turns at logs behind s = IsOutOfTurn logs s
Fails clause.Numbers at logs behind s = LackNumbers logs s
Fails clause.Checkpoints at logs behind s = IsUnkept at logs s

-- of whole logs the clause is the first that fails
pub record IsBreach (at : Images) (logs : List Log) (behind : ℕ) (b : Breach) : Type 0 where
  pub before : HoldBefore b.clause at logs behind
  pub fails : Fails b.clause at logs behind b.at
