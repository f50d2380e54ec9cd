-- Guards without which a sound state is left: for each a state and a move that lacks it.
use Rattle.std.specs.Prelude.{◌≡◌, ◌≢◌, ◌⊎◌, ℕ, true, false, if◌then◌else◌, ◌==◌, Option, Some, None}
use Rattle.lock_names.specs.declared.mode.Mode.{Mode}
use Rattle.lock_names.specs.declared.mode.Mode.TheVariants.{X}
use Rattle.lock_names.specs.declared.mode.Interest.{Interest}
use Rattle.lock_names.specs.Modes.{class_of}
use Rattle.lock_protocol.specs.Functions.{put, put2, put3}
use Rattle.lock_protocol.specs.Machine.{World, Record, Empty, Clean, no_interest, blocks, granted, entered, cleared, released, failed, purged, start}
use Rattle.lock_protocol.specs.Moves.{NotRetained, NoLocalConflict}
use Rattle.lock_protocol.specs.Sound.{Sound}

-- all names fall on one entry
abbrev pub one_entry : ℕ → ℕ
one_entry n = 0

abbrev pub exclusive_alone : Interest
exclusive_alone = record { share = false; exclusive = true }

abbrev pub recorded_x : Option Record
recorded_x = Some (record { mode = X; retained = false })

-- member 2 has row number 7 in X by its owner 1, and the entry was granted twice
abbrev pub held : World
held = record start {
  version = put (λ e. 0) 0 2;
  interest = put2 (λ m e. no_interest) 2 0 exclusive_alone;
  records = put2 (λ m n. None) 2 7 recorded_x;
  claims = put3 (λ m o n. None) 2 1 7 (Some X);
}

-- ---- a clean answer counts only with the entry's present version

-- member 2 answered member 1 before it got the row
abbrev pub answered_early : World
answered_early = record held { cells = put3 (λ m o k. Empty) 1 1 2 (Clean 7 X 1) }

abbrev pub AnsweredClean : World → ℕ → ℕ → ℕ → Mode → Type 0
AnsweredClean w m owner name mode = (k : ℕ) → k ≢ m → w.live k ≡ true
    → (blocks (class_of mode) (w.interest k (one_entry name)) ≡ false) ⊎ ((v : ℕ) × (w.cells m owner k ≡ Clean name mode v))

pub record StampIsNeeded : Type 0 where
  pub sound : Sound one_entry answered_early
  pub free : NotRetained answered_early 1 7 X
  pub clean : AnsweredClean answered_early 1 1 7 X
  pub near : NoLocalConflict answered_early 1 1 7 X
  pub breaks : Sound one_entry (entered (cleared (granted one_entry answered_early 1 7 X) 1 1) 1 1 7 X) → ⊥

-- ---- a failure retains the records of its member

abbrev pub forgotten : World → ℕ → World
forgotten w m = record (failed w m) { records = λ k n. if k == m then None else w.records k n }

pub record RetainedIsNeeded : Type 0 where
  pub sound : Sound one_entry held
  pub breaks : Sound one_entry (forgotten held 2) → ⊥

-- ---- a release keeps the interest that other claims of the entry need

-- member 2 has row number 8 too
abbrev pub held_two : World
held_two = record held {
  records = put2 held.records 2 8 recorded_x;
  claims = put3 held.claims 2 1 8 (Some X);
}

pub record KeptInterestIsNeeded : Type 0 where
  pub sound : Sound one_entry held_two
  pub last : (q : ℕ) → q ≢ 1 → held_two.claims 2 q 7 ≡ None
  pub breaks : Sound one_entry (released one_entry held_two 2 1 7 no_interest) → ⊥

-- ---- a retained record is purged only when no claim on its name is left

pub record NoClaimIsNeeded : Type 0 where
  pub sound : Sound one_entry (failed held 2)
  pub breaks : Sound one_entry (purged (failed held 2) 2 7) → ⊥
