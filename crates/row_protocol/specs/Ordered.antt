-- How the records of a row stand in the logs, and what undo makes of the row.
use Rattle.std.specs.Prelude.{◌≡◌, ◌≢◌, ◌⊎◌, ℕ, ◌≤◌, Bool, true, false, ◌&&◌, ◌||◌, leb, ltb, List, [], ◌∷◌, Option, Some, None, if◌then◌else◌, ◌==◌}
use Rattle.row_protocol.specs.Log.{Change, stands, undone_by, has}
use Rattle.row_protocol.specs.Machine.{World, is_committed, is_done, on_disk, row_now, rows_of_logs, undone, start}
use Rattle.row_protocol.specs.Moves.{Move, Step, Run, IsAlone}
use Rattle.row_protocol.specs.Legal.{Legal}

-- the row at an LRSN: the value of the newest of these changes that wasn't undone by then
abbrev pub value_at : List Change → ℕ → Option ℕ → Option ℕ
value_at [] l opening = opening
value_at (c ∷ cs) l opening = if undone_by c.undone l then value_at cs l opening else c.after

-- each change's value before it is what the row was
abbrev pub IsChained : List Change → Option ℕ → Type 0
IsChained [] opening = Unit {0}
IsChained (c ∷ cs) opening = (c.before ≡ value_at cs c.lrsn opening) × IsChained cs opening

abbrev pub mark_by : Option ℕ → ℕ → Bool
mark_by None l = true
mark_by (Some k) l = leb k l

-- all compensations have LRSNs up to this one
abbrev pub marks_by : List Change → ℕ → Bool
marks_by [] l = true
marks_by (c ∷ cs) l = mark_by c.undone l && marks_by cs l

-- a change was undone before the later change of its transaction was made, or after that one was undone
abbrev pub marks_nest : Option ℕ → ℕ → Option ℕ → Bool
marks_nest None l m = true
marks_nest (Some k) l None = leb k l
marks_nest (Some k) l (Some u) = leb k l || ltb u k

-- the first change may stand below the second
abbrev pub fits_below : Change → Change → (ℕ → Bool) → Bool
fits_below d c done = ltb d.lrsn c.lrsn && (if d.tran == c.tran then marks_nest d.undone c.lrsn c.undone else (done d.tran && mark_by d.undone c.lrsn))

abbrev pub all_below : List Change → Change → (ℕ → Bool) → Bool
all_below [] c done = true
all_below (d ∷ ds) c done = fits_below d c done && all_below ds c done

-- Below a change stand older ones alone: of its own transaction, undone from the last to the first, or of transactions
-- that are done, undone before it was made.
abbrev pub is_ordered : List Change → (ℕ → Bool) → Bool
is_ordered [] done = true
is_ordered (c ∷ cs) done = all_below cs c done && is_ordered cs done

-- the commit record with this LRSN, where there is one, is older
abbrev pub is_before : Option ℕ → ℕ → Bool
is_before None l = true
is_before (Some k) l = ltb k l

abbrev pub follows_commits : List Change → Change → (ℕ → Option ℕ) → Bool
follows_commits [] c commit = true
follows_commits (d ∷ ds) c commit = ((d.tran == c.tran) || is_before (commit d.tran) c.lrsn) && follows_commits ds c commit

-- below a change stand, of other transactions that have committed, those alone whose commit record is older
abbrev pub is_after_commits : List Change → (ℕ → Option ℕ) → Bool
is_after_commits [] commit = true
is_after_commits (c ∷ cs) commit = follows_commits cs c commit && is_after_commits cs commit

pub record Ordered (home : ℕ → ℕ) (opening : ℕ → Option ℕ) (w : World) : Type 0 where
  pub ordered : (r : ℕ) → is_ordered (w.changes r) (λ t. is_done home w t) ≡ true
  pub after_commits : (r : ℕ) → is_after_commits (w.changes r) w.commit ≡ true
  pub marked : (r : ℕ) → marks_by (w.changes r) w.counter ≡ true
  pub chained : (r : ℕ) → IsChained (w.changes r) (opening r)

abbrev pub StartsOrdered : Type 0
StartsOrdered = (home : ℕ → ℕ) (opening : ℕ → Option ℕ) → Ordered home opening start

abbrev pub KeepsOrdered : Type 0
KeepsOrdered = (home : ℕ → ℕ) (opening : ℕ → Option ℕ) (w v : World) (e : Move) → Legal home opening w → Ordered home opening w → IsAlone w.claim → Step home opening w e v → Ordered home opening v

abbrev pub AlwaysOrdered : Type 0
AlwaysOrdered = (home : ℕ → ℕ) (opening : ℕ → Option ℕ) (moves : List Move) (w : World) → Run home opening start moves w → Ordered home opening w

-- at most one transaction has changes of a row and isn't done, also while the group is down and no claims are left
abbrev pub OneIsOpen : Type 0
OneIsOpen = (home : ℕ → ℕ) (opening : ℕ → Option ℕ) (w : World) (t u r : ℕ) → Ordered home opening w → t ≢ u → has (w.changes r) t ≡ true → has (w.changes r) u ≡ true → is_done home w t ≡ false → is_done home w u ≡ true

-- the change that is undone next
abbrev pub next_undo : List Change → ℕ → Option Change
next_undo [] t = None
next_undo (c ∷ cs) t = if (c.tran == t) && stands c.undone then Some c else next_undo cs t

-- an undo finds the row as its change left it, and leaves it as the change found it
pub record SetsBack (opening : ℕ → Option ℕ) (w : World) (t r : ℕ) (c : Change) : Type 0 where
  pub finds : row_now opening w r ≡ c.after
  pub leaves : row_now opening (undone w t r) r ≡ c.before

abbrev pub UndoSetsBack : Type 0
UndoSetsBack = (home : ℕ → ℕ) (opening : ℕ → Option ℕ) (w : World) (t r : ℕ) (c : Change) → Ordered home opening w → is_done home w t ≡ false → next_undo (w.changes r) t ≡ Some c → SetsBack opening w t r c

-- ---- the rows of the logs by LRSN alone, whatever order the records are read in

abbrev pub IsIn : List Change → Change → Type 0
IsIn [] c = ⊥
IsIn (d ∷ ds) c = (c ≡ d) ⊎ IsIn ds c

-- the record is on disk, and so is the commit record of its transaction
abbrev pub counts : (ℕ → ℕ) → World → Change → Bool
counts home w c = on_disk home w c.tran c.lrsn && is_committed home w c.tran

-- the record that counts with the greatest LRSN gives the row, and where none counts the row is as it was at first
pub record ByLrsn (home : ℕ → ℕ) (opening : ℕ → Option ℕ) (w : World) (r : ℕ) : Type 0 where
  pub greatest : (c : Change) → IsIn (w.changes r) c → counts home w c ≡ true → ((d : Change) → IsIn (w.changes r) d → counts home w d ≡ true → d.lrsn ≤ c.lrsn) → rows_of_logs home opening w r ≡ c.after
  pub none : ((d : Change) → IsIn (w.changes r) d → counts home w d ≡ false) → rows_of_logs home opening w r ≡ opening r

abbrev pub LogsByLrsn : Type 0
LogsByLrsn = (home : ℕ → ℕ) (opening : ℕ → Option ℕ) (w : World) (r : ℕ) → Ordered home opening w → ByLrsn home opening w r
