-- The moves of transactions and logs, each with what must hold before it.
use Rattle.std.specs.Prelude.{◌≡◌, ◌≢◌, ℕ, ◌<◌, ◌≤◌, true, false, List, [], ◌∷◌, Option, Some, None}
use Rattle.row_protocol.specs.Rows.{touches}
use Rattle.row_protocol.specs.Log.{has, all_undone_by}
use Rattle.row_protocol.specs.Machine.{World, Mode, X, Waiting, Forward, Undoing, is_done, begun, got, changed, skipped, decided, forced, committed, stopped, undone, ended, failed, group_failed, reopened}

pub data Move : Type 0 where
  Begin : ℕ → Move  -- a transaction
  Get : ℕ → ℕ → Move  -- a transaction and a row
  Put : ℕ → ℕ → Option ℕ → Move  -- a transaction, a row and its value
  Skip : Move  -- a record that changes no row draws its LRSN
  Decide : ℕ → Move  -- a transaction puts its commit record into the buffer
  Force : ℕ → ℕ → Move  -- a member's log is on disk up to an LRSN, with no commit record among the new ones
  Commit : ℕ → ℕ → Move  -- the log is on disk up to the transaction's commit record, which has this LRSN
  Stop : ℕ → Move  -- a transaction is refused
  Undo : ℕ → ℕ → Move  -- a transaction and a row: the newest of its changes that stand is compensated
  End : ℕ → Move  -- a transaction's ended record is on disk
  Claims : (ℕ → ℕ → Option Mode) → Move  -- claims are taken and given up
  Fail : ℕ → Move  -- a member
  GroupFail : ℕ → Move  -- the counter of LRSNs after it
  Reopen : Move  -- group restart has ended

-- no two transactions have a row where one of them may change it: what the locks give
abbrev pub IsAlone : (ℕ → ℕ → Option Mode) → Type 0
IsAlone claim = (t u r : ℕ) → t ≢ u → claim t r ≡ Some X → claim u r ≡ None

-- no commit record of the member's log, but this transaction's, lies above what is on disk and up to the LRSN
abbrev pub NoOtherCommit : (ℕ → ℕ) → World → ℕ → ℕ → ℕ → Type 0
NoOtherCommit home w m t l = (u k : ℕ) → u ≢ t → home u ≡ m → w.commit u ≡ Some k → w.flushed m < k → l < k

abbrev pub NoCommit : (ℕ → ℕ) → World → ℕ → ℕ → Type 0
NoCommit home w m l = (u k : ℕ) → home u ≡ m → w.commit u ≡ Some k → w.flushed m < k → l < k

-- a transaction that goes forward keeps its claims, and one that hasn't ended those of its changes
abbrev pub KeepsClaims : (ℕ → ℕ) → World → (ℕ → ℕ → Option Mode) → Type 0
KeepsClaims home w claim =
    ((t r : ℕ) → touches (w.active t) r ≡ true → claim t r ≢ None)
    × ((t r : ℕ) → has (w.changes r) t ≡ true → is_done home w t ≡ false → claim t r ≡ Some X)

abbrev pub Step : (ℕ → ℕ) → (ℕ → Option ℕ) → World → Move → World → Type 0
-- the member's agent takes a new transaction
Step home opening w (Begin t) v = (w.down ≡ false) × (w.stage t ≡ Waiting) × (v ≡ begun w t)
-- the agent has the row's lock, or its table space's, and no commit record yet
Step home opening w (Get t r) v = (w.down ≡ false) × (w.stage t ≡ Forward) × (w.commit t ≡ None) × (w.claim t r ≢ None) × (v ≡ got opening w t r)
Step home opening w (Put t r x) v = (w.down ≡ false) × (w.stage t ≡ Forward) × (w.commit t ≡ None) × (w.claim t r ≡ Some X) × (v ≡ changed opening w t r x)
-- a record that formats, splits or enters pages
Step home opening w Skip v = v ≡ skipped w
Step home opening w (Decide t) v = (w.stage t ≡ Forward) × (w.commit t ≡ None) × (v ≡ decided w t)
-- an append writes the buffer from its oldest record on: it is a list of these two moves, and so is each part of it
Step home opening w (Force m l) v = (w.flushed m ≤ l) × (l ≤ w.counter) × NoCommit home w m l × (v ≡ forced w m l)
Step home opening w (Commit t l) v = (w.commit t ≡ Some l) × (w.flushed (home t) < l) × NoOtherCommit home w (home t) t l × (v ≡ committed home w t l)
-- after its commit record is written nothing refuses a transaction
Step home opening w (Stop t) v = (w.stage t ≡ Forward) × (w.commit t ≡ None) × (v ≡ stopped w t)
-- the member's agent, its restart, or group restart
Step home opening w (Undo t r) v = (w.stage t ≡ Undoing) × (v ≡ undone w t r)
-- the ended record stands in the log behind the last compensation, and all up to it is on disk
Step home opening w (End t) v = (w.stage t ≡ Undoing) × ((r : ℕ) → all_undone_by (w.changes r) t (w.flushed (home t)) ≡ true) × (v ≡ ended w t)
-- locks are released last; a failed member's are retained where open changes need them
Step home opening w (Claims claim) v = (w.down ≡ false) × KeepsClaims home w claim × (v ≡ record w { claim = claim })
Step home opening w (Fail m) v = v ≡ failed home w m
-- group restart reads the greatest LRSN of the logs on disk
Step home opening w (GroupFail counter) v = ((m : ℕ) → w.flushed m ≤ counter) × (v ≡ group_failed home w counter)
-- group restart has ended each transaction that has changes and no commit
Step home opening w Reopen v = ((t r : ℕ) → has (w.changes r) t ≡ true → is_done home w t ≡ true) × (v ≡ reopened w)

-- a run in which the claims are sound after each move
abbrev pub Run : (ℕ → ℕ) → (ℕ → Option ℕ) → World → List Move → World → Type 0
Run home opening w [] v = v ≡ w
Run home opening w (e ∷ es) v = (mid : World) × Step home opening w e mid × IsAlone mid.claim × Run home opening mid es v
