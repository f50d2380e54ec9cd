-- The rows of a range are those of each of its tables.
use Rattle.std.proofs.Common.{◌≡◌, ℕ, true, List, arith}
use Rattle.std.proofs.lemmas.Bool.Decides.{nat_tests}
use Rattle.ds_model.specs.declared.log.LogRecord.{LogRecord}
use Rattle.ds_model.specs.Rows.{Rows}
use Rattle.redone_pages.specs.declared.range.TableRange.{TableRange}
use Rattle.redone_pages.specs.Ranges.{has_table, HasTable}
use Rattle.sound_disk.specs.Rows_there.{row_after}
use Rattle.heap_rows.specs.Maps.{rows_in}
use Rattle.heap_rows.specs.Left.{AreRowsOf}

has_it : (range : TableRange) (table : ℕ) → HasTable range table → has_table range table ≡ true
has_it range table has =
    let first = has.0 in
    let last = has.1 in
    grind (arith, nat_tests, first, last)

pub rows_of : (range : TableRange) (records : List LogRecord) (rows : Rows) (table : ℕ) → AreRowsOf (has_table range) records rows → HasTable range table → (key : ℕ) → rows_in rows table key ≡ row_after records table key
rows_of range records rows table of has key = of table key (has_it range table has)
