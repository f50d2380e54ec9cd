-- What the layers above get from it, each by itself.
use Rattle.std.specs.Prelude.{◌≡◌, ◌≢◌, ℕ, true, false, List, [], ◌∷◌, ◌++◌, Option}
use Rattle.row_protocol.specs.Functions.{put}
use Rattle.row_protocol.specs.Rows.{Op, Committed, replay, IsLegalHistory}
use Rattle.row_protocol.specs.Log.{has}
use Rattle.row_protocol.specs.Machine.{World, is_committed, is_done, rows_of_logs, start}
use Rattle.row_protocol.specs.Moves.{Move, Begin, Get, Put, Skip, Decide, Force, Commit, Stop, Undo, End, Claims, Fail, GroupFail, Reopen, Step, Run, IsAlone}
use Rattle.row_protocol.specs.Legal.{Legal}

-- one thread that runs the committed transactions in the order of their commits, from the opening rows, gets every read
abbrev pub HistoryIsLegal : Type 0
HistoryIsLegal = (home : ℕ → ℕ) (opening : ℕ → Option ℕ) (moves : List Move) (w : World) → Run home opening start moves w → IsLegalHistory w.history opening

-- and leaves the rows that the logs on disk stand for
abbrev pub LogsAreReplay : Type 0
LogsAreReplay = (home : ℕ → ℕ) (opening : ℕ → Option ℕ) (moves : List Move) (w : World) → Run home opening start moves w → (r : ℕ) → rows_of_logs home opening w r ≡ replay w.history opening r

-- a commit is never taken back, whatever happens
abbrev pub CommitsStay : Type 0
CommitsStay = (home : ℕ → ℕ) (opening : ℕ → Option ℕ) (moves : List Move) (w v : World) → Legal home opening w → IsAlone w.claim → Run home opening w moves v
    → (t : ℕ) → is_committed home w t ≡ true → is_committed home v t ≡ true

-- and the history only grows
abbrev pub HistoryGrows : Type 0
HistoryGrows = (home : ℕ → ℕ) (opening : ℕ → Option ℕ) (moves : List Move) (w v : World) → Run home opening w moves v → ((new : List Committed) × (v.history ≡ new ++ w.history))

-- A row that a transaction has changed is read and changed by no other before that transaction has committed or its
-- changes are undone for good.
pub record NoOtherUses (home : ℕ → ℕ) (opening : ℕ → Option ℕ) (w : World) (t u r : ℕ) : Type 0 where
  pub get : (v : World) → Step home opening w (Get u r) v → ⊥
  pub change : (v : World) (x : Option ℕ) → Step home opening w (Put u r x) v → ⊥

abbrev pub UndoneFirst : Type 0
UndoneFirst = (home : ℕ → ℕ) (opening : ℕ → Option ℕ) (w : World) (t u r : ℕ) → Legal home opening w → IsAlone w.claim → u ≢ t → has (w.changes r) t ≡ true → is_done home w t ≡ false → NoOtherUses home opening w t u r

-- ---- appends

-- the move writes on in this member's log
abbrev pub is_append : (ℕ → ℕ) → ℕ → Move → Type 0
is_append home m (Begin t) = ⊥
is_append home m (Get t r) = ⊥
is_append home m (Put t r x) = ⊥
is_append home m Skip = ⊥
is_append home m (Decide t) = ⊥
is_append home m (Force k l) = k ≡ m
is_append home m (Commit t l) = home t ≡ m
is_append home m (Stop t) = ⊥
is_append home m (Undo t r) = ⊥
is_append home m (End t) = ⊥
is_append home m (Claims c) = ⊥
is_append home m (Fail k) = ⊥
is_append home m (GroupFail n) = ⊥
is_append home m Reopen = ⊥

abbrev pub IsAppend : (ℕ → ℕ) → ℕ → List Move → Type 0
IsAppend home m [] = Unit {0}
IsAppend home m (e ∷ es) = is_append home m e × IsAppend home m es

-- the history after an append, or after a part of it: the commits that it has written stand before what was
abbrev pub appended : List Move → (ℕ → List Op) → List Committed → List Committed
appended [] active history = history
appended (Begin t ∷ es) active history = appended es active history
appended (Get t r ∷ es) active history = appended es active history
appended (Put t r x ∷ es) active history = appended es active history
appended (Skip ∷ es) active history = appended es active history
appended (Decide t ∷ es) active history = appended es active history
appended (Force k l ∷ es) active history = appended es active history
appended (Commit t l ∷ es) active history = appended es (put active t []) (record { tran = t; ops = active t } ∷ history)
appended (Stop t ∷ es) active history = appended es active history
appended (Undo t r ∷ es) active history = appended es active history
appended (End t ∷ es) active history = appended es active history
appended (Claims c ∷ es) active history = appended es active history
appended (Fail k ∷ es) active history = appended es active history
appended (GroupFail n ∷ es) active history = appended es active history
appended (Reopen ∷ es) active history = appended es active history

-- At every moment inside an append the rows of the logs are the replay of the history with the commits among the
-- records that are on disk.
abbrev pub AppendsStand : Type 0
AppendsStand = (home : ℕ → ℕ) (opening : ℕ → Option ℕ) (m : ℕ) (moves : List Move) (w v : World) → Legal home opening w → IsAlone w.claim → IsAppend home m moves → Run home opening w moves v
    → (r : ℕ) → rows_of_logs home opening v r ≡ replay (appended moves w.active w.history) opening r
