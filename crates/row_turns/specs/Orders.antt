-- What records keep to, of which a scan holds only what is open: each row change has a number of its own, and is taken back behind it, if at all,
-- by its transaction, which then doesn't commit.
use Rattle.std.specs.Prelude.{◌≡◌, ℕ, ◌==◌, Bool, true, false, not, ◌&&◌, List, [], ◌∷◌, ◌++◌}
use Rattle.std.specs.List.{list_any}
use Rattle.ds_model.specs.declared.log.LogRecord.{LogRecord}
use Rattle.ds_model.specs.declared.log.RowChange.{RowChange}
use Rattle.ds_model.specs.declared.log.Body.{Body}
use Rattle.ds_model.specs.declared.log.Body.TheVariants as body
use Rattle.ds_model.specs.Logs.{has_commit, by_lrsn}
use Rattle.log_record.specs.declared.log.Log.{Log}
use Rattle.log_merge.specs.Merging.{all_records}
use Rattle.sound_disk.specs.Settled.{is_row_change, takes_back}
use Rattle.sound_disk.specs.Turns.{changes_row}
use Rattle.sound_disk.specs.Transactions.{AreTransactions}
use Rattle.sound_disk.specs.Versions.{merged}
use Rattle.sound_disk.specs.Whole_logs.{AreWholeLogs}

abbrev pub is_compensation : Body → Bool
is_compensation (body.RowChange change) = false
is_compensation (body.Compensation change undone) = true
is_compensation (body.System patches) = false
is_compensation body.Commit = false
is_compensation body.Ended = false
is_compensation (body.Checkpoint offset) = false
is_compensation body.RestartEnd = false

-- the transaction takes a change back by one of these
abbrev pub has_undone : List LogRecord → ℕ → Bool
has_undone records tran = list_any (λ (s : LogRecord). is_compensation s.body && (s.tran == tran)) records

-- one of these takes back the row change of this number
abbrev pub is_taken_back : List LogRecord → ℕ → Bool
is_taken_back records lrsn = list_any (λ (s : LogRecord). takes_back lrsn s.body) records

-- the record isn't a row change of a transaction with a Commit among the earlier ones
abbrev pub is_early : List LogRecord → LogRecord → Bool
is_early earlier r = not (is_row_change r.body && has_commit earlier r.tran)

-- a compensation of the transaction takes back one of these row changes, of the same row, which is open; no other has its number
pub record TakesBackOne (earlier : List LogRecord) (tran : ℕ) (c : RowChange) (undone : ℕ) : Type 0 where
  pub front : List LogRecord
  pub it : LogRecord
  pub rest : List LogRecord
  pub split : earlier ≡ front ++ it ∷ rest
  pub row_is : changes_row c it.body ≡ true
  pub tran_is : it.tran ≡ tran
  pub number_is : it.lrsn ≡ undone
  pub before : list_any (λ (s : LogRecord). is_row_change s.body && (undone == s.lrsn)) front ≡ false
  pub behind : list_any (λ (s : LogRecord). is_row_change s.body && (undone == s.lrsn)) rest ≡ false
  pub uncommitted : has_commit earlier tran ≡ false
  pub untaken : is_taken_back earlier undone ≡ false

abbrev pub BodyMayTurn : List LogRecord → LogRecord → Body → Type 0
BodyMayTurn earlier r (body.RowChange c) = is_taken_back earlier r.lrsn ≡ false
BodyMayTurn earlier r (body.Compensation c undone) = TakesBackOne earlier r.tran c undone
BodyMayTurn earlier r (body.System patches) = Unit {0}
BodyMayTurn earlier r body.Commit = has_undone earlier r.tran ≡ false
BodyMayTurn earlier r body.Ended = Unit {0}
BodyMayTurn earlier r (body.Checkpoint offset) = Unit {0}
BodyMayTurn earlier r body.RestartEnd = Unit {0}

-- the record may stand behind the earlier ones; where it is said that no transaction goes on behind its Commit, it doesn't
pub record MayTurn (early : Bool) (earlier : List LogRecord) (r : LogRecord) : Type 0 where
  pub early_is : early ≡ true → is_early earlier r ≡ true
  pub body_is : BodyMayTurn earlier r r.body

-- each of the records, behind those before it
abbrev pub AreOrderly : Bool → List LogRecord → List LogRecord → Type 0
AreOrderly early earlier [] = Unit {0}
AreOrderly early earlier (r ∷ rs) = MayTurn early earlier r × AreOrderly early (earlier ++ r ∷ []) rs

-- no record, behind the earlier ones, is one of a transaction that has committed
abbrev pub are_early : List LogRecord → List LogRecord → Bool
are_early earlier [] = true
are_early earlier (r ∷ rs) = is_early earlier r && are_early (earlier ++ r ∷ []) rs

-- so are the merged records of logs of transactions
abbrev pub OrdersHold : Type 0
OrdersHold = (logs : List Log) (bytes : List (List ℕ)) (early : Bool) → AreWholeLogs 1 bytes logs → AreTransactions logs → (early ≡ true → are_early [] (by_lrsn (all_records logs)) ≡ true) → AreOrderly early [] (merged logs)
