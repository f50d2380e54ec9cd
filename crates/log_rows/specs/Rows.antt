-- The rows that records change for a transaction, and the transactions that they close.
use Rattle.std.specs.Prelude.{◌≡◌, ◌≢◌, ℕ, ◌==◌, ◌&&◌, ◌||◌, Bool, true, false, List, [], ◌∷◌, ◌++◌}
use Rattle.std.specs.List.{AllByRecursion}
use Rattle.ds_model.specs.Rows.{Spot}
use Rattle.ds_model.specs.declared.log.Body.{Body}
use Rattle.ds_model.specs.declared.log.Body.TheVariants as body
use Rattle.ds_model.specs.declared.log.LogRecord.{LogRecord}
use Rattle.log_trans.specs.declared.opened.OpenTran.{OpenTran}
use Rattle.log_trans.specs.Courses.{open_trans}

-- ---- one record

-- it changes this row; what takes a change back isn't meant
abbrev pub is_change_of : Spot → Body → Bool
is_change_of s (body.RowChange c) = (c.table == s.0) && (c.key == s.1)
is_change_of s (body.Compensation c undone) = false
is_change_of s (body.System patches) = false
is_change_of s body.Commit = false
is_change_of s body.Ended = false
is_change_of s (body.Checkpoint offset) = false
is_change_of s body.RestartEnd = false

-- it closes its transaction
abbrev pub is_end : Body → Bool
is_end (body.RowChange c) = false
is_end (body.Compensation c undone) = false
is_end (body.System patches) = false
is_end body.Commit = true
is_end body.Ended = true
is_end (body.Checkpoint offset) = false
is_end body.RestartEnd = false

-- ---- records

-- one of them changes the row for the transaction of this number
abbrev pub has_changed : List LogRecord → ℕ → Spot → Bool
has_changed [] id s = false
has_changed (r ∷ rs) id s = ((r.tran == id) && is_change_of s r.body) || has_changed rs id s

-- one of them closes the transaction of this number
abbrev pub is_closed : List LogRecord → ℕ → Bool
is_closed [] id = false
is_closed (r ∷ rs) id = ((r.tran == id) && is_end r.body) || is_closed rs id

-- one of them changes the row, whatever the transaction
abbrev pub has_row : List LogRecord → Spot → Bool
has_row [] s = false
has_row (r ∷ rs) s = is_change_of s r.body || has_row rs s

-- ---- a transaction that is left open

-- a change of it that stands, or that was taken back, is of this row
abbrev pub touches : OpenTran → Spot → Bool
touches t s = has_row t.undo s || has_row t.undone s

-- none of the records closes it, and they change its rows for it
pub record IsOpenIn (records : List LogRecord) (t : OpenTran) : Type 0 where
  pub numbered : t.id ≢ 0
  pub unclosed : is_closed records t.id ≡ false
  pub changed : (s : Spot) → touches t s ≡ true → has_changed records t.id s ≡ true

abbrev pub OpenTell : Type 0
OpenTell = (records : List LogRecord) → AllByRecursion (IsOpenIn records) (open_trans records)

-- ---- records behind others

pub record BothTell : Type 0 where
  pub changed : (a b : List LogRecord) (id : ℕ) (s : Spot) → has_changed (a ++ b) id s ≡ (has_changed a id s || has_changed b id s)
  pub closed : (a b : List LogRecord) (id : ℕ) → is_closed (a ++ b) id ≡ (is_closed a id || is_closed b id)
  pub rows : (a b : List LogRecord) (s : Spot) → has_row (a ++ b) s ≡ (has_row a s || has_row b s)
