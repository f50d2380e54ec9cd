-- Guards without which a legal state is left: for each a state and a move that lacks it.
--
-- Member 1 runs transaction 1 and member 2 transaction 2. Row 7 was absent; transaction 1 has given it the value 5.
use Rattle.std.specs.Prelude.{◌≢◌, ℕ, true, ◌&&◌, Option, Some, None, if◌then◌else◌, ◌==◌}
use Rattle.row_protocol.specs.Functions.{put}
use Rattle.row_protocol.specs.Rows.{IsLegal, replay}
use Rattle.row_protocol.specs.Log.{logged}
use Rattle.row_protocol.specs.Machine.{World, Mode, S, X, Forward, on_disk, is_committed, row_now, changed, got, decided, stopped, undone, ended, forced, committed, failed, reopened, group_failed, start}
use Rattle.row_protocol.specs.Moves.{IsAlone}
use Rattle.row_protocol.specs.Legal.{Legal}

abbrev pub at_home : ℕ → ℕ
at_home t = t

abbrev pub empty_rows : ℕ → Option ℕ
empty_rows r = None

-- a transaction's claim on row number 7 alone
abbrev pub only_claim : ℕ → Mode → ℕ → ℕ → Option Mode
only_claim t m u r = if u == t then (if r == 7 then Some m else None) else None

abbrev pub both_run : World
both_run = record start { stage = put (put start.stage 1 Forward) 2 Forward; claim = only_claim 1 X }

abbrev pub changed_7 : World
changed_7 = changed empty_rows both_run 1 7 (Some 5)

-- the claims are transaction 2's, which reads row number 7
abbrev pub read_by_other : World → World
read_by_other w = got empty_rows (record w { claim = only_claim 2 S }) 2 7

-- and what it reads is no row of any history
abbrev pub ReadsWrong : World → Type 0
ReadsWrong w = IsLegal ((read_by_other w).active 2) (replay w.history empty_rows) → ⊥

-- ---- a transaction's changes are undone before its claims go
abbrev pub refused : World
refused = stopped changed_7 1

pub record UndoBeforeReleaseIsNeeded : Type 0 where
  pub legal : Legal at_home empty_rows refused
  pub alone : IsAlone refused.claim
  pub breaks : ReadsWrong refused

-- ---- claims go after the commit record is on disk
-- The commit record is in the buffer. If its member fails now, the change is lost, and transaction 2 has read it.
abbrev pub in_buffer : World
in_buffer = decided changed_7 1

pub record StableBeforeReleaseIsNeeded : Type 0 where
  pub legal : Legal at_home empty_rows in_buffer
  pub alone : IsAlone in_buffer.claim
  pub breaks : ReadsWrong in_buffer

-- ---- the rows of the logs are those of transactions with a commit record on disk
-- The change is on disk, and its transaction may still be refused.
abbrev pub change_on_disk : World
change_on_disk = forced changed_7 1 1

-- the rows that all records on disk stand for
abbrev pub rows_of_all : World → ℕ → Option ℕ
rows_of_all w r = logged (w.changes r) (λ t l. on_disk at_home w t l) (λ t. true) None

pub record CommitRecordIsNeeded : Type 0 where
  pub legal : Legal at_home empty_rows change_on_disk
  pub breaks : rows_of_all change_on_disk 7 ≢ replay change_on_disk.history empty_rows 7

-- ---- transactions begin after group restart has undone what the failed group left
abbrev pub fallen : World
fallen = group_failed at_home change_on_disk 1

pub record UndoBeforeReopenIsNeeded : Type 0 where
  pub legal : Legal at_home empty_rows fallen
  pub breaks : ReadsWrong (reopened fallen)

-- ---- a refused transaction has ended only when its compensations are on disk
-- The compensation is in the buffer. If the claims went now and the member failed, the change would stand again, with no
-- transaction left that is to undo it.
abbrev pub half_undone : World
half_undone = undone (stopped change_on_disk 1) 1 7

pub record UndoOnDiskIsNeeded : Type 0 where
  pub legal : Legal at_home empty_rows half_undone
  pub breaks : row_now empty_rows (failed at_home (ended half_undone 1) 1) 7 ≢ replay half_undone.history empty_rows 7

-- ---- the rows of the logs need the logs of all members
-- Transaction 1 has committed; transaction 2 has then given row number 7 the value 6 and committed too.
abbrev pub first_commit : World
first_commit = committed at_home (decided changed_7 1) 1 2

abbrev pub second_commit : World
second_commit = committed at_home (decided (changed empty_rows (record first_commit { claim = only_claim 2 X }) 2 7 (Some 6)) 2) 2 4

abbrev pub rows_of_member : ℕ → World → ℕ → Option ℕ
rows_of_member m w r = logged (w.changes r) (λ t l. (at_home t == m) && on_disk at_home w t l) (λ t. is_committed at_home w t) None

pub record AllLogsAreNeeded : Type 0 where
  pub legal : Legal at_home empty_rows second_commit
  pub breaks : rows_of_member 1 second_commit 7 ≢ replay second_commit.history empty_rows 7
