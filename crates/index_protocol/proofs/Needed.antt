-- The states that show the guards' need.
use Rattle.std.proofs.Common.{◌≡◌, ℕ, ◌<◌, refl, arith, Some, None}
use Rattle.index_protocol.specs.Index.{World, Split, Give, BranchEntry, Write, End, Leaf, Unmade, Step, start, beyond, written_world, ended_world}
use Rattle.index_protocol.specs.Whole.{WholeIndex}
use Rattle.index_protocol.specs.Search.{greatest}
use Rattle.index_protocol.specs.Needed.{formatted, was_split, was_given, entered_after, all_written, key_7, SplitterGoesOn, FailureIsPossible, RightFirstIsNeeded, was_entered, ChildFirstIsNeeded, right_written, LeftBeforeBranchIsNeeded, half_shown, ReachedIsNeeded, WrittenBeforeEndIsNeeded, BothSidesIsNeeded, OneWriterIsNeeded}
use Rattle.index_protocol.proofs.Runs.{kept_start, kept_step}

abbrev leaf_written : World
leaf_written = written_world (start 1) 2 1

step_leaf : Step (start 1) (Write 2 1) leaf_written
step_leaf = (record { grows = omega arith; within = omega arith; right = λ u l a b e. grind arith; child = λ u k c e. absurd cc; parted = λ u k c q e. absurd cc }, refl)

step_branch : Step leaf_written (Write 1 1) formatted
step_branch = (record { grows = omega arith; within = omega arith; right = λ u l a b e. grind arith; child = λ u k c e a b is. grind arith; parted = λ u k c q e a b is. grind arith }, refl)

formatted_whole : WholeIndex formatted
formatted_whole = kept_step leaf_written formatted (Write 1 1) (kept_step (start 1) leaf_written (Write 2 1) (kept_start 1) step_leaf) step_branch

step_split : Step formatted (Split 1 2 3 5) was_split
unfolding beyond
step_split = (record { made = λ e. cc; fresh = refl; above = omega arith; covered = refl; at_entry = λ e. cc }, (λ ne. absurd (ne refl)), refl)

split_whole : WholeIndex was_split
split_whole = kept_step formatted was_split (Split 1 2 3 5) formatted_whole step_split

step_give : Step was_split (Give 1 3 7 70) was_given
unfolding beyond
step_give = (record { leaf = refl; from_low = omega arith; covered = refl; free = refl }, (λ ne. refl), (λ q less. grind (arith, less)), (λ e. refl), refl)

given_whole : WholeIndex was_given
given_whole = kept_step was_split was_given (Give 1 3 7 70) split_whole step_give

step_enter : Step was_given (BranchEntry 1 1 5 3) entered_after
unfolding beyond
step_enter = (record { branch = refl; child = refl; low = refl; from_low = omega arith; covered = refl; there = λ e. refl }, (λ ne. absurd (ne refl)), (λ q less. grind (arith, less)), refl)

step_enter_early : Step was_split (BranchEntry 1 1 5 3) was_entered
unfolding beyond
step_enter_early = (record { branch = refl; child = refl; low = refl; from_low = omega arith; covered = refl; there = λ e. refl }, (λ ne. absurd (ne refl)), (λ q less. grind (arith, less)), refl)

entered_whole : WholeIndex was_entered
entered_whole = kept_step was_split was_entered (BranchEntry 1 1 5 3) split_whole step_enter_early

step_write_early : Step was_entered (Write 3 1) right_written
step_write_early = (record { grows = omega arith; within = omega arith; right = λ u l a b e. grind arith; child = λ u k c e. absurd cc; parted = λ u k c q e. absurd cc }, refl)

step_write_half : Step was_split (Write 3 1) half_shown
step_write_half = (record { grows = omega arith; within = omega arith; right = λ u l a b e. grind arith; child = λ u k c e. absurd cc; parted = λ u k c q e. absurd cc }, refl)

half_whole : WholeIndex half_shown
half_whole = kept_step was_split half_shown (Write 3 1) split_whole step_write_half

-- ---- the run
abbrev w4 : World
w4 = written_world entered_after 3 2

abbrev w5 : World
w5 = written_world w4 2 2

step4 : Step entered_after (Write 3 2) w4
step4 = (record { grows = omega arith; within = omega arith; right = λ u l a b e. grind arith; child = λ u k c e. absurd cc; parted = λ u k c q e. absurd cc }, refl)

step5 : Step w4 (Write 2 2) w5
step5 = (record { grows = omega arith; within = omega arith; right = λ u l a b e. grind arith; child = λ u k c e. absurd cc; parted = λ u k c q e. absurd cc }, refl)

step6 : Step w5 (Write 1 2) all_written
step6 = (record { grows = omega arith; within = omega arith; right = λ u l a b e. grind arith; child = λ u k c e a b is. grind arith; parted = λ u k c q e a b is. grind arith }, refl)

all_shown : (n : ℕ) → all_written.rest.writer n ≡ 1 → all_written.rest.shown n ≡ (all_written.pages n).last
all_shown n is = grind arith

step7 : Step all_written (End 1 key_7) (ended_world all_written key_7)
step7 = (record { own = λ k is. grind arith; all_shown = all_shown }, refl)

pub goes_on : SplitterGoesOn
goes_on = record {
  run = (leaf_written, step_leaf, (formatted, step_branch, (was_split, step_split, (was_given, step_give, (entered_after, step_enter, (w4, step4, (w5, step5, (all_written, step6, (ended_world all_written key_7, step7, refl)))))))));
  known = λ m. record { given = refl; free = λ o e. grind arith };
}

pub failure_possible : FailureIsPossible
failure_possible = record { split = λ n. grind arith; give = λ n. grind arith }

-- ---- the guards
pub right_first : RightFirstIsNeeded
unfolding beyond
right_first = record {
  whole = split_whole;
  leads = refl;
  not_there = refl;
  breaks = λ s. let a : 2 < 2 = (s.shape 2).right_shown 2 (record { high = 5; right = 3 }) (omega arith) (omega arith) refl refl in omega (arith, a);
}

pub child_first : ChildFirstIsNeeded
unfolding beyond greatest
child_first = record {
  whole = entered_whole;
  leads = refl;
  not_there = refl;
  breaks = λ s. let a : 2 < 2 = (s.shape 1).child_shown 2 5 3 refl (omega arith) (omega arith) refl refl in omega (arith, a);
}

pub left_before : LeftBeforeBranchIsNeeded
left_before = record {
  whole = kept_step was_entered right_written (Write 3 1) entered_whole step_write_early;
  breaks = λ s. let a : 2 < 2 = (s.shape 1).child_open 2 5 3 2 refl (omega arith) (omega arith) refl (omega arith) in omega (arith, a);
}

pub reached : ReachedIsNeeded
unfolding beyond
reached = record {
  whole = half_whole;
  may = record { leaf = refl; from_low = omega arith; covered = refl; free = refl };
  alone = λ ne. absurd (ne refl);
  missed = (refl, refl);
  breaks = λ s. let a : None ≡ Some 70 = (s.leaves 2).finds 1 7 70 refl (omega arith) (omega arith) (omega arith) refl (omega arith) refl (λ e. cc) in cc;
}

pub written_before : WrittenBeforeEndIsNeeded
unfolding beyond
written_before = record {
  whole = given_whole;
  breaks = λ s. let a : None ≡ Some 70 = (s.leaves 2).finds 1 7 70 refl (omega arith) (omega arith) (omega arith) refl (omega arith) refl (λ e. cc) in cc;
}

pub both_sides : BothSidesIsNeeded
both_sides = record {
  whole = split_whole;
  kept = λ n. (grind arith, grind arith);
  breaks = λ s. let a : Unmade ≡ Leaf = (s.shape 2).right_kind 2 (record { high = 5; right = 3 }) (omega arith) (omega arith) refl in cc;
}

pub one_writer : OneWriterIsNeeded
unfolding beyond
one_writer = record {
  whole = split_whole;
  may = record { leaf = refl; from_low = omega arith; covered = refl; free = refl };
  opens = λ q less. grind (arith, less);
  breaks = λ s. let a : 1 ≡ 2 = (s.shape 2).right_writer 2 (record { high = 5; right = 3 }) (omega arith) (omega arith) refl refl in omega (arith, a);
}
