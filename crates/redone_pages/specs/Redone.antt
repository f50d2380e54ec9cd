-- The pages of some tables as contracts see them: by the records that made them.
use Rattle.std.specs.Prelude.{ℕ, List}
use Rattle.ds_base.specs.declared.names.PageId.{PageId}
use Rattle.ds_model.specs.declared.log.LogRecord.{LogRecord}
use Rattle.redone_pages.specs.declared.range.TableRange.{TableRange}
use Rattle.redone_pages.specs.Lasts.{AreLasts}
use Rattle.redone_pages.specs.Held.{AreImages}

-- all records so far, also those of other tables
pub record Redone : Type 0 where
  pub records : List LogRecord
  pub range : TableRange

-- what is held is what they make
pub record AreRedone (range : TableRange) (entries : List (PageId × List ℕ)) (lasts : List ℕ) (records : List LogRecord) : Type 0 where
  pub images : AreImages range entries records
  pub lasts_are : AreLasts lasts records
