-- A run that has each move, and guards without which a whole index is left: for each a state and a move that lacks it.
use Rattle.std.specs.Prelude.{◌≡◌, ℕ, ◌≤◌, Bool, List, [], ◌∷◌, None, if◌then◌else◌, ◌==◌}
use Rattle.index_protocol.specs.Index.{World, Move, Split, Give, BranchEntry, Write, End, start, given_world, split_world, entered_world, written_world, ended_world, failed_world, IsOpen, MayChange, MayFail, MayGive}
use Rattle.index_protocol.specs.Whole.{WholeIndex, Run}
use Rattle.index_protocol.specs.Search.{Right, Down, Here, look, IsKnown}

-- member 1 formatted the index and wrote it, the leaf before the branch
abbrev pub formatted : World
formatted = written_world (written_world (start 1) 2 1) 1 1

-- it splits leaf 2 at key 5; page 3 takes the keys from there
abbrev pub was_split : World
was_split = split_world formatted 1 2 3 5

-- the splitter goes on at once: it gives key 7 in page 3
abbrev pub was_given : World
was_given = given_world was_split 1 3 7 70

-- ---- a run that has each move but a failure: the splitter writes from right to left and then the branch, and ends
abbrev pub entered_after : World
entered_after = entered_world was_given 1 1 5 3

abbrev pub all_written : World
all_written = written_world (written_world (written_world entered_after 3 2) 2 2) 1 2

abbrev pub key_7 : ℕ → Bool
key_7 k = k == 7

abbrev pub run_moves : List Move
run_moves = Write 2 1 ∷ Write 1 1 ∷ Split 1 2 3 5 ∷ Give 1 3 7 70 ∷ BranchEntry 1 1 5 3 ∷ Write 3 2 ∷ Write 2 2 ∷ Write 1 2 ∷ End 1 key_7 ∷ []

pub record SplitterGoesOn : Type 0 where
  pub run : Run (start 1) run_moves (ended_world all_written key_7)
  pub known : (m : ℕ) → IsKnown (ended_world all_written key_7).rest m 7 70

-- a failure of the splitter may lose the split, which is not shown, or the give alone
pub record FailureIsPossible : Type 0 where
  pub split : (n : ℕ) → MayFail was_split.rest 1 (λ q. (formatted.pages q).last) n (was_split.pages n)
  pub give : (n : ℕ) → MayFail was_given.rest 1 (λ q. (was_split.pages q).last) n (was_given.pages n)

-- ---- a right page is written before its left page
abbrev pub left_first : World
left_first = written_world was_split 2 2

pub record RightFirstIsNeeded : Type 0 where
  pub whole : WholeIndex was_split
  -- a reader of the left page is led to a page that is not there
  pub leads : look (left_first.rest.kind 2) ((left_first.pages 2).link 2) ((left_first.pages 2).entry 2) 7 ≡ Right 3
  pub not_there : left_first.rest.shown 3 ≡ 0
  pub breaks : WholeIndex left_first → ⊥

-- ---- a right page is written before its branch entry
abbrev pub was_entered : World
was_entered = entered_world was_split 1 1 5 3

abbrev pub branch_first : World
branch_first = written_world was_entered 1 2

pub record ChildFirstIsNeeded : Type 0 where
  pub whole : WholeIndex was_entered
  pub leads : look (branch_first.rest.kind 1) ((branch_first.pages 1).link 2) ((branch_first.pages 1).entry 2) 7 ≡ Down 3
  pub not_there : branch_first.rest.shown 3 ≡ 0
  pub breaks : WholeIndex branch_first → ⊥

-- ---- the left page, too, is written before the branch entry of its right page
abbrev pub right_written : World
right_written = written_world was_entered 3 1

pub record LeftBeforeBranchIsNeeded : Type 0 where
  pub whole : WholeIndex right_written
  pub breaks : WholeIndex (written_world right_written 1 2) → ⊥

-- ---- a member gives a key only in a page that it reached: with the right page shown and the left page not, another member
-- that gave a key in the right page would leave the left page's shown version, which covers the key, without it
abbrev pub half_shown : World
half_shown = written_world was_split 3 1

abbrev pub given_by_other : World
given_by_other = given_world half_shown 2 3 7 70

pub record ReachedIsNeeded : Type 0 where
  pub whole : WholeIndex half_shown
  pub may : MayGive half_shown.rest 3 (half_shown.pages 3) 7
  pub alone : MayChange half_shown.rest 2 3 (half_shown.pages 3)
  pub missed : ((given_by_other.pages 2).entry (given_by_other.rest.shown 2) 7 ≡ None) × (look (given_by_other.rest.kind 2) ((given_by_other.pages 2).link (given_by_other.rest.shown 2)) ((given_by_other.pages 2).entry (given_by_other.rest.shown 2)) 7 ≡ Here)
  pub breaks : WholeIndex given_by_other → ⊥

-- ---- what keeps others from a key is released only when every page that its giver changed is shown
pub record WrittenBeforeEndIsNeeded : Type 0 where
  pub whole : WholeIndex was_given
  pub breaks : WholeIndex (ended_world was_given key_7) → ⊥

-- ---- a split stays on both of its pages or on none
abbrev pub without_right : ℕ → ℕ
without_right n = if n == 3 then 0 else (was_split.pages n).last

pub record BothSidesIsNeeded : Type 0 where
  pub whole : WholeIndex was_split
  pub kept : (n : ℕ) → (was_split.rest.shown n ≤ without_right n) × (without_right n ≤ (was_split.pages n).last)
  pub breaks : WholeIndex (failed_world was_split without_right) → ⊥

-- ---- only the page's writer changes it before it is shown
pub record OneWriterIsNeeded : Type 0 where
  pub whole : WholeIndex was_split
  pub may : MayGive was_split.rest 2 (was_split.pages 2) 3
  pub opens : IsOpen was_split.rest 2 2
  pub breaks : WholeIndex (given_world was_split 2 2 3 30) → ⊥
