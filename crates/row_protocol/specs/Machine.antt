-- The rows of a group: claims, transactions, the logs of its members, and the history.
--
-- Each transaction runs at one member, its home, and has its records in that member's log. A log is on disk up to an
-- LRSN; its records above it are in the member's buffer.
use Rattle.std.specs.Prelude.{ℕ, ◌+◌, Bool, true, false, ◌&&◌, ◌||◌, not, leb, List, [], ◌∷◌, Option, Some, None, if◌then◌else◌, ◌==◌}
use Rattle.row_protocol.specs.Functions.{put}
use Rattle.row_protocol.specs.Rows.{Op, Read, Wrote, Committed}
use Rattle.row_protocol.specs.Log.{Change, value, logged, compensated, kept_mark, without}

-- What a transaction may do with a row by its claims on the row and on the row's table space: read it, or read and
-- change it.
pub data Mode : Type 0 where
  S : Mode
  X : Mode

pub data Stage : Type 0 where
  Waiting : Stage  -- it hasn't begun
  Forward : Stage  -- it reads and changes rows, until its commit record is written
  Undoing : Stage  -- it was refused or stopped: its changes are to be undone
  Ended : Stage  -- its ended record is on disk, behind the compensations of all its changes

pub record World : Type 0 where
  pub changes : ℕ → List Change  -- by row: its records in all logs and buffers
  pub commit : ℕ → Option ℕ  -- by transaction: the LRSN of its commit record, in its log or buffer
  pub stage : ℕ → Stage  -- by transaction
  pub flushed : ℕ → ℕ  -- by member: the LRSN up to which its log is on disk
  pub counter : ℕ  -- the last LRSN that was drawn
  pub claim : ℕ → ℕ → Option Mode  -- by transaction and row
  pub active : ℕ → List Op  -- by transaction that goes forward: what it has done
  pub history : List Committed  -- in the order in which commit records came to disk
  pub down : Bool  -- the group failed, and its restart hasn't ended

-- the transaction's record with this LRSN is on disk
abbrev pub on_disk : (ℕ → ℕ) → World → ℕ → ℕ → Bool
on_disk home w t l = leb l (w.flushed (home t))

abbrev pub is_stable : Option ℕ → ℕ → Bool
is_stable None flushed = false
is_stable (Some l) flushed = leb l flushed

-- its commit record is on disk
abbrev pub is_committed : (ℕ → ℕ) → World → ℕ → Bool
is_committed home w t = is_stable (w.commit t) (w.flushed (home t))

abbrev pub is_ended : Stage → Bool
is_ended Waiting = false
is_ended Forward = false
is_ended Undoing = false
is_ended Ended = true

-- it has committed, or its changes are undone for good
abbrev pub is_done : (ℕ → ℕ) → World → ℕ → Bool
is_done home w t = is_committed home w t || is_ended (w.stage t)

-- the row with all changes
abbrev pub row_now : (ℕ → Option ℕ) → World → ℕ → Option ℕ
row_now opening w r = value (w.changes r) (opening r)

-- the rows that the logs on disk stand for
abbrev pub rows_of_logs : (ℕ → ℕ) → (ℕ → Option ℕ) → World → ℕ → Option ℕ
rows_of_logs home opening w r = logged (w.changes r) (λ t l. on_disk home w t l) (λ t. is_committed home w t) (opening r)

-- ---- what moves leave

abbrev pub begun : World → ℕ → World
begun w t = record w { stage = put w.stage t Forward }

abbrev pub got : (ℕ → Option ℕ) → World → ℕ → ℕ → World
got opening w t r = record w { active = put w.active t (Read r (row_now opening w r) ∷ w.active t) }

abbrev pub new_change : (ℕ → Option ℕ) → World → ℕ → ℕ → Option ℕ → Change
new_change opening w t r x = record { lrsn = w.counter + 1; tran = t; before = row_now opening w r; after = x; undone = None }

abbrev pub changed : (ℕ → Option ℕ) → World → ℕ → ℕ → Option ℕ → World
changed opening w t r x = record w {
  changes = put w.changes r (new_change opening w t r x ∷ w.changes r);
  counter = w.counter + 1;
  active = put w.active t (Wrote r x ∷ w.active t);
}

-- an LRSN was drawn for a record that changes no row
abbrev pub skipped : World → World
skipped w = record w { counter = w.counter + 1 }

-- its commit record is in the buffer
abbrev pub decided : World → ℕ → World
decided w t = record w { commit = put w.commit t (Some (w.counter + 1)); counter = w.counter + 1 }

-- a member's log is on disk up to this LRSN
abbrev pub forced : World → ℕ → ℕ → World
forced w m l = record w { flushed = put w.flushed m l }

-- and the record with this LRSN is the transaction's commit
abbrev pub committed : (ℕ → ℕ) → World → ℕ → ℕ → World
committed home w t l = record w {
  flushed = put w.flushed (home t) l;
  active = put w.active t [];
  history = record { tran = t; ops = w.active t } ∷ w.history;
}

abbrev pub stopped : World → ℕ → World
stopped w t = record w { stage = put w.stage t Undoing; active = put w.active t [] }

abbrev pub undone : World → ℕ → ℕ → World
undone w t r = record w { changes = put w.changes r (compensated (w.changes r) t (w.counter + 1)); counter = w.counter + 1 }

abbrev pub ended : World → ℕ → World
ended w t = record w { stage = put w.stage t Ended }

-- a transaction that goes forward is stopped, unless it has committed
abbrev pub stage_after : Stage → Bool → Stage
stage_after Waiting is_kept = Waiting
stage_after Forward is_kept = if is_kept then Forward else Undoing
stage_after Undoing is_kept = Undoing
stage_after Ended is_kept = Ended

-- Members fail: the records of their buffers are lost, and those of their transactions are stopped that haven't
-- committed.
abbrev pub cut_off : (ℕ → ℕ) → World → (ℕ → Bool) → World
cut_off home w fails = record w {
  changes = λ r. without (w.changes r) (λ t l. fails (home t) && not (on_disk home w t l));
  commit = λ t. if fails (home t) then kept_mark (w.commit t) (λ l. not (on_disk home w t l)) else w.commit t;
  stage = λ t. if fails (home t) then stage_after (w.stage t) (is_committed home w t) else w.stage t;
  active = λ t. if fails (home t) then [] else w.active t;
}

-- a member failed; the claims that go with it are a move of their own
abbrev pub failed : (ℕ → ℕ) → World → ℕ → World
failed home w m = cut_off home w (λ k. k == m)

-- the group failed: all members did, all claims are gone, and LRSNs are drawn anew above those on disk
abbrev pub group_failed : (ℕ → ℕ) → World → ℕ → World
group_failed home w counter = record (cut_off home w (λ k. true)) { counter = counter; claim = λ t r. None; down = true }

abbrev pub reopened : World → World
reopened w = record w { down = false }

abbrev pub start : World
start = record {
  changes = λ r. [];
  commit = λ t. None;
  stage = λ t. Waiting;
  flushed = λ m. 0;
  counter = 0;
  claim = λ t r. None;
  active = λ t. [];
  history = [];
  down = false;
}
