-- What holds of rows, logs and history after every move.
use Rattle.std.specs.Prelude.{◌≡◌, ◌≢◌, ℕ, ◌≤◌, true, false, List, Option, Some, None}
use Rattle.row_protocol.specs.Rows.{rows_after, IsLegal, writes, touches, replay, IsLegalHistory, is_listed, is_once}
use Rattle.row_protocol.specs.Log.{has, is_top, all_stand, drawn_by, all_undone_by}
use Rattle.row_protocol.specs.Machine.{World, X, Waiting, Forward, Ended, is_committed, is_done, row_now, rows_of_logs, start}
use Rattle.row_protocol.specs.Moves.{Move, Step, Run, IsAlone}

pub record Legal (home : ℕ → ℕ) (opening : ℕ → Option ℕ) (w : World) : Type 0 where
  -- LRSNs were drawn
  pub flushed : (m : ℕ) → w.flushed m ≤ w.counter
  pub drawn : (t r : ℕ) → drawn_by (w.changes r) t w.counter ≡ true
  pub decided : (t l : ℕ) → w.commit t ≡ Some l → l ≤ w.counter
  -- a commit record stands behind the transaction's changes
  pub covered : (t r l : ℕ) → w.commit t ≡ Some l → drawn_by (w.changes r) t l ≡ true
  -- stages
  pub deciding : (t l : ℕ) → w.commit t ≡ Some l → w.stage t ≡ Forward
  pub fresh : (t r : ℕ) → w.stage t ≡ Waiting → has (w.changes r) t ≡ false
  pub running : (t r : ℕ) → touches (w.active t) r ≡ true → w.stage t ≡ Forward
  pub unanswered : (t r : ℕ) → touches (w.active t) r ≡ true → is_committed home w t ≡ false
  -- claims
  pub touched : (t r : ℕ) → touches (w.active t) r ≡ true → w.claim t r ≢ None
  pub written : (t r : ℕ) → writes (w.active t) r ≡ true → w.claim t r ≡ Some X
  pub held : (t r : ℕ) → w.down ≡ false → has (w.changes r) t ≡ true → is_done home w t ≡ false → w.claim t r ≡ Some X
  -- the changes of a transaction that goes forward: all stand, and the last one is the row's last record
  pub standing : (t r : ℕ) → w.stage t ≡ Forward → all_stand (w.changes r) t ≡ true
  pub only : (t r : ℕ) → has (w.changes r) t ≡ true → w.stage t ≡ Forward → is_committed home w t ≡ false → writes (w.active t) r ≡ true
  pub last : (t r : ℕ) → writes (w.active t) r ≡ true → is_top (w.changes r) t ≡ true
  pub own : (t r : ℕ) → writes (w.active t) r ≡ true → row_now opening w r ≡ rows_after (w.active t) (replay w.history opening) r
  -- those of one that has ended: all undone, on disk
  pub ended : (t r : ℕ) → w.stage t ≡ Ended → all_undone_by (w.changes r) t (w.flushed (home t)) ≡ true
  -- the history has each transaction once whose commit record is on disk
  pub listed : (t : ℕ) → is_listed w.history t ≡ is_committed home w t
  pub once : is_once w.history ≡ true
  -- each read of a transaction that goes forward is what it would get if it were the next of the history
  pub legal : (t : ℕ) → IsLegal (w.active t) (replay w.history opening)
  pub history : IsLegalHistory w.history opening
  -- the rows of the logs are the replay of the history
  pub stands : (r : ℕ) → rows_of_logs home opening w r ≡ replay w.history opening r

abbrev pub StartsLegal : Type 0
StartsLegal = (home : ℕ → ℕ) (opening : ℕ → Option ℕ) → Legal home opening start

-- each move keeps it, where the claims are sound
abbrev pub KeepsLegal : Type 0
KeepsLegal = (home : ℕ → ℕ) (opening : ℕ → Option ℕ) (w v : World) (e : Move) → Legal home opening w → IsAlone w.claim → Step home opening w e v → Legal home opening v

abbrev pub AlwaysLegal : Type 0
AlwaysLegal = (home : ℕ → ℕ) (opening : ℕ → Option ℕ) (moves : List Move) (w : World) → Run home opening start moves w → Legal home opening w
