-- That a log leaves open each transaction that it doesn't close, with all rows that it has changed.
use Rattle.std.specs.Prelude.{◌≡◌, ◌≢◌, ℕ, ◌==◌, ◌&&◌, ◌||◌, Bool, true, false, List, [], ◌∷◌}
use Rattle.ds_model.specs.Rows.{Spot}
use Rattle.ds_model.specs.declared.log.LogRecord.{LogRecord}
use Rattle.log_rows.specs.Rows.{has_changed, is_closed, touches}
use Rattle.log_trans.specs.declared.opened.OpenTran.{OpenTran}
use Rattle.log_trans.specs.Courses.{open_trans}

-- one of these is the transaction of this number, and has changed the row
abbrev pub has_opened : List OpenTran → ℕ → Spot → Bool
has_opened [] id s = false
has_opened (t ∷ ts) id s = ((t.id == id) && touches t s) || has_opened ts id s

abbrev pub OpensAreAll : Type 0
OpensAreAll = (records : List LogRecord) (id : ℕ) (s : Spot) → id ≢ 0 → has_changed records id s ≡ true → is_closed records id ≡ false → has_opened (open_trans records) id s ≡ true
