-- What is known of some tables while all records go by.
use Rattle.std.specs.Prelude.{◌≡◌, ℕ, Bool, List, [], ◌∷◌, ◌++◌}
use Rattle.ds_disk.specs.Contents.{Contents}
use Rattle.ds_disk.specs.Pages.{page_at}
use Rattle.ds_model.specs.declared.log.LogRecord.{LogRecord}
use Rattle.ds_model.specs.Logs.{by_lrsn}
use Rattle.log_merge.specs.Merging.{kept}
use Rattle.log_head.specs.Heads.{HeadState}
use Rattle.log_heads.specs.Logs.{left, together, NoneFalls}
use Rattle.page_images.specs.Images.{Images}
use Rattle.disk_walk.specs.Walks.{Stand}
use Rattle.redone_pages.specs.declared.range.TableRange.{TableRange}
use Rattle.disk_versions.specs.Met.{AreMet}
use Rattle.stood_rows.specs.Found.{IsStanding}
use Rattle.row_turns.specs.Scans.{IsTurning}
use Rattle.sound_disk.specs.Versions.{merged}
use Rattle.disk_walk.specs.Whole.{OfWholeLogs}
use Rattle.space_check.specs.declared.scan.TableScan.{TableScan}

-- what is known of the tables of the range by the records that were scanned, whatever the disk says
pub record IsScan (range : TableRange) (early : Bool) (s : TableScan) : Type 0 where
  pub range_is : s.met.made.range ≡ range
  pub rows_of : s.standing.rows.range ≡ range
  pub standing : IsStanding s.met.made.records s.standing
  pub turns_of : s.turns.range ≡ range
  pub early_is : s.turns.is_early ≡ early
  pub turns : IsTurning s.met.made.records s.turns

-- these records were scanned, beside the pages of the disk
pub record IsScanned (at : Images) (records : List LogRecord) (s : TableScan) : Type 0 where
  pub records_are : s.met.made.records ≡ records
  pub met : AreMet at s.met

-- and one more
abbrev pub ScansAlso : Images → LogRecord → TableScan → TableScan → Type 0
ScansAlso at r old new = (records : List LogRecord) → IsScanned at records old → IsScanned at (records ++ r ∷ []) new

-- of those that change pages or commit
abbrev pub ScansKept : Images → LogRecord → TableScan → TableScan → Type 0
ScansKept at r old new = (records : List LogRecord) → IsScanned at (kept records) old → IsScanned at (kept (records ++ r ∷ [])) new

-- all that are left of the logs
abbrev pub ScansLeft : Contents → List HeadState → TableScan → TableScan → Type 0
ScansLeft c heads old new = Stand c.logs heads → NoneFalls (left c.logs heads) → IsScanned (page_at c.pages) [] old → IsScanned (page_at c.pages) (kept (by_lrsn (together (left c.logs heads)))) new

-- the merged records of whole logs
abbrev pub IsScanOf : List ℕ → TableScan → Contents → Type 0
IsScanOf ends s c = OfWholeLogs ends (λ logs. IsScanned (page_at c.pages) (merged logs) s) c
