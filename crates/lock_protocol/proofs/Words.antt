-- What soundness gives.
use Rattle.std.proofs.Common.{◌≡◌, ℕ, refl, sym, ap, subst, arith, Bool, true, false, inl, inr, Option, Some, None}
use Rattle.std.specs.Prelude.{◌==◌, ◌&&◌, if◌then◌else◌, unwrap_or}
use Rattle.std.proofs.lemmas.Bool.{cases_eq, both_ways, cond-true, eq-eqb}
use Rattle.lock_names.specs.declared.mode.Mode.{Mode}
use Rattle.lock_names.specs.declared.mode.Mode.TheVariants.{X}
use Rattle.lock_names.specs.Modes.{are_compatible, is_recorded, join_of}
use Rattle.lock_protocol.specs.Machine.{World, Record, both_allowed, IsClear, RecordCovers, RetainedCovers, retained_claim, retained_record, failed}
use Rattle.lock_protocol.specs.Sound.{Sound, IsCovered, IsRecorded}
use Rattle.lock_protocol.specs.Needed.{one_entry, held, recorded_x}
use Rattle.lock_protocol.specs.Words.{AreOthers, HasCover, SoundGives, JoinIsOne}
use Rattle.lock_protocol.specs.Example.{RecordStands}
use Rattle.lock_protocol.proofs.Kept.{kept_failed, kept_restart}
use Rattle.lock_protocol.proofs.Needed.{held_sound}

both_hold : (entry : ℕ → ℕ) (w : World) (k l o q n : ℕ) → Sound entry w → AreOthers k o l q → both_allowed (w.claims k o n) (w.claims l q n) ≡ true
both_hold entry w k l o q n s others = elim (cases_eq k l) [
  | inl e ↦ subst (λ x. both_allowed (w.claims k o n) (w.claims x q n) ≡ true) e (s.within k o q n (others e))
  | inr ne ↦ s.across k l o q n ne
]

both_are : (x y : Option Mode) (a b : Mode) → both_allowed x y ≡ true → x ≡ Some a → y ≡ Some b → are_compatible a b ≡ true
both_are x y a b h e f = subst (λ z. both_allowed z (Some b) ≡ true) e (subst (λ z. both_allowed x z ≡ true) f h)

none_beside : (m : Mode) → are_compatible X m ≡ false
unfolding are_compatible
none_beside m = grind arith

alone_at : (x y : Option Mode) → both_allowed x y ≡ true → x ≡ Some X → y ≡ None
alone_at x None h e = refl
alone_at x (Some m) h e = absurd (both_ways (are_compatible X m) (none_beside m) (both_are x (Some m) X m h e refl))

some_none : (o : Option Mode) (m : Mode) → o ≡ None → o ≡ Some m → ⊥
some_none o m a b = cc

one_holder : (entry : ℕ → ℕ) (w : World) (k l o n : ℕ) → Sound entry w → w.claims k o n ≡ Some X → w.claims l o n ≡ Some X → k ≡ l
one_holder entry w k l o n s a b = elim (cases_eq k l) [
  | inl e ↦ e
  | inr ne ↦ absurd (some_none (w.claims l o n) X (alone_at (w.claims k o n) (w.claims l o n) (s.across k l o o n ne) a) b)
]

cover_of : (entry : ℕ → ℕ) (w : World) (k o n : ℕ) (a : Mode) → Sound entry w → w.claims k o n ≡ Some a → HasCover entry w k n a
cover_of entry w k o n a s e = subst (λ c. IsCovered c (w.live k) (w.interest k (entry n)) (w.records k n)) e (s.covered k o n)

retained_of : (entry : ℕ → ℕ) (w : World) (k o n : ℕ) (a : Mode) → Sound entry w → w.live k ≡ false → w.claims k o n ≡ Some a → RetainedCovers (w.records k n) a
retained_of entry w k o n a s dead e = elim (cover_of entry w k o n a s e) [ inl b ↦ absurd (both_ways (w.live k) dead b.0) | inr r ↦ r ]

record_stays : (r : Option Record) (a : Mode) → RecordCovers r a → RetainedCovers (retained_record r) a
record_stays None a h = absurd h
record_stays (Some x) a h = (refl, h)

claim_stays : (c : Option Mode) (a : Mode) → c ≡ Some a → is_recorded a ≡ true → retained_claim c ≡ Some a
claim_stays c a e r = subst (λ x. retained_claim x ≡ Some a) (sym e) (cond-true (is_recorded a) (Some a) None r)

record_of : (c : Option Mode) (r : Option Record) (a : Mode) → IsRecorded c r → c ≡ Some a → is_recorded a ≡ true → RecordCovers r a
record_of c r a s e is = subst (λ x. IsRecorded x r) e s is

outlives : (entry : ℕ → ℕ) (w : World) (k o n : ℕ) (a : Mode) → Sound entry w → w.claims k o n ≡ Some a → is_recorded a ≡ true → ((failed w k).claims k o n ≡ Some a) × RetainedCovers ((failed w k).records k n) a
outlives entry w k o n a s e r =
    let same : (k == k) ≡ true = eq-eqb k k refl in
    let c = cond-true (k == k) (retained_claim (w.claims k o n)) (w.claims k o n) same in
    let d = cond-true (k == k) (retained_record (w.records k n)) (w.records k n) same in (
      subst (λ x. x ≡ Some a) (sym c) (claim_stays (w.claims k o n) a e r),
      subst (λ x. RetainedCovers x a) (sym d) (record_stays (w.records k n) a (record_of (w.claims k o n) (w.records k n) a (s.recorded k o n) e r)),
    )

pub gives : SoundGives
gives entry w s = record {
  compatible = λ k l o q n a b others e f. both_are (w.claims k o n) (w.claims l q n) a b (both_hold entry w k l o q n s others) e f;
  alone = λ k l o q n others e. alone_at (w.claims k o n) (w.claims l q n) (both_hold entry w k l o q n s others) e;
  one_holder = λ k l o n a b. one_holder entry w k l o n s a b;
  covered = λ k o n a e. cover_of entry w k o n a s e;
  retained = λ k o n a dead e. retained_of entry w k o n a s dead e;
  outlives = λ k o n a e r. outlives entry w k o n a s e r;
}

pub join_is_one : JoinIsOne
unfolding are_compatible join_of
join_is_one a b h = grind arith

-- ---- a restart
clear_at : (b : Bool) → IsClear (retained_claim (if b && true then Some X else None)) (Some (record { mode = X; retained = true })) X
unfolding is_recorded join_of
clear_at true = inr (refl, refl)
clear_at false = tt

kept_at : (b c : Bool) (x : Mode) → retained_claim (if b && c then Some X else None) ≡ Some x → RetainedCovers (retained_record (if c then recorded_x else None)) x
unfolding is_recorded join_of
kept_at true true x e = (refl, subst (λ y. join_of X y ≡ X) (ap (λ o. unwrap_or o X) e) refl)
kept_at true false x e = absurd (some_none None x refl e)
kept_at false c x e = absurd (some_none None x refl e)

pub record_stands : RecordStands
unfolding are_compatible
record_stands = record {
  sound = kept_restart one_entry (failed held 2) 2 (kept_failed one_entry held 2 held_sound);
  answers = λ q. clear_at (q == 1);
  keeps = λ q n x ne same e. inr (kept_at (q == 1) (n == 7) x e);
  refused = λ h. let a : false ≡ true = h 2 (omega arith) refl in cc;
}
