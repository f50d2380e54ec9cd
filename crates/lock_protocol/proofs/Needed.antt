-- The states that show the guards' need.
use Rattle.std.proofs.Common.{◌≡◌, zero, suc, arith, refl, true, false, inl, inr}
use Rattle.lock_names.specs.declared.mode.Mode.TheVariants.{X}
use Rattle.lock_names.specs.Modes.{are_compatible, join_of, class_of, is_recorded}
use Rattle.lock_protocol.specs.Machine.{backs, blocks}
use Rattle.lock_protocol.specs.Sound.{Sound}
use Rattle.lock_protocol.specs.Needed.{one_entry, held, answered_early, AnsweredClean, held_two, StampIsNeeded, RetainedIsNeeded, KeptInterestIsNeeded, NoClaimIsNeeded}
use Rattle.lock_protocol.proofs.Kept.{kept_failed}

pub held_sound : Sound one_entry held
unfolding are_compatible join_of class_of is_recorded backs
held_sound = record { across = grind arith; within = grind arith; covered = grind arith; recorded = grind arith; stamped = grind arith; fresh = grind arith }

early_sound : Sound one_entry answered_early
unfolding are_compatible join_of class_of is_recorded backs
early_sound = record { across = held_sound.across; within = held_sound.within; covered = held_sound.covered; recorded = held_sound.recorded; stamped = grind arith; fresh = grind arith }

two_sound : Sound one_entry held_two
unfolding are_compatible join_of class_of is_recorded backs
two_sound = record { across = grind arith; within = grind arith; covered = grind arith; recorded = grind arith; stamped = grind arith; fresh = grind arith }

clean : AnsweredClean answered_early 1 1 7 X
unfolding class_of blocks
clean zero ne live = inl (grind arith)
clean (suc zero) ne live = inl (grind arith)
clean (suc (suc zero)) ne live = inr (1, grind arith)
clean (suc (suc (suc k))) ne live = inl (grind arith)

pub stamp : StampIsNeeded
unfolding are_compatible join_of class_of is_recorded backs blocks
stamp = record {
  sound = early_sound;
  free = grind arith;
  clean = clean;
  near = grind arith;
  breaks = λ s. let both : false ≡ true = s.across 1 2 1 1 7 (omega arith) in cc;
}

pub retained : RetainedIsNeeded
unfolding is_recorded join_of
retained = record { sound = held_sound; breaks = λ s. s.recorded 2 1 7 refl }

pub kept_interest : KeptInterestIsNeeded
unfolding are_compatible join_of class_of is_recorded backs
kept_interest = record {
  sound = two_sound;
  last = grind arith;
  breaks = λ s. grind (arith, s.covered 2 1 8);
}

pub no_claim : NoClaimIsNeeded
unfolding are_compatible join_of class_of is_recorded backs
no_claim = record { sound = kept_failed one_entry held 2 held_sound; breaks = λ s. grind (arith, s.covered 2 1 7) }
