-- The claims in the list of a group's are sound, where the group stands beside a sound world of locks.
use Rattle.std.proofs.Common.{◌≡◌, inl, inr, ℕ, ◌≤◌, refl, sym, ap, subst, ◌∙◌, arith, Bool, true, false, List, Option, Some, None}
use Rattle.std.specs.Prelude.{◌⊎◌, Contains, leb, length}
use Rattle.std.proofs.lemmas.Bool.{and_from, cond-true, le-leb}
use Rattle.ds_model.specs.declared.lock.Name.{Name}
use Rattle.lock_names.specs.declared.mode.Mode.{Mode}
use Rattle.lock_names.specs.declared.mode.Interest.{Interest}
use Rattle.lock_names.specs.Modes.{are_compatible, class_of, is_recorded}
use Rattle.lock_protocol.specs.Machine.{World, Record, RecordCovers, RetainedCovers, backs, no_interest}
use Rattle.lock_protocol.specs.Sound.{IsRecorded}
use Rattle.lock_protocol.specs.Words.{Gives, HasCover, SoundGives}
use Rattle.lock_structure.specs.declared.chain.Record.{Record as FacilityRecord}
use Rattle.lock_structure.specs.Locks.{interest_of, place_of, record_of}
use Rattle.lock_world.specs.Numbers.{name_at, number}
use Rattle.lock_world.specs.Tied.{ClaimTied}
use Rattle.lock_world.specs.Views.{as_record, entry_in, is_member}
use Rattle.lock_world.proofs.Numbers.{named}
use Rattle.rested_logs.specs.Given.{CrewState, LocksTied, known}
use Rattle.sound_locks.specs.Claims.{ClaimsAreSound, Conflict, HasInterest, IsCovered, LockClaim, Records, Retains, TiedAreSound, claims_in}
use Rattle.sound_locks.proofs.Known.{IsTold, all_told}
use Rattle.sound_locks.proofs.Listed.{each_in, none_some}

-- ---- records

pub retains : (r : Option FacilityRecord) (a : Mode) → RetainedCovers (as_record r) a → Retains r a
retains None a h = h
retains (Some r) a h = h

records : (r : Option FacilityRecord) (a : Mode) → RecordCovers (as_record r) a → Records r a
records None a h = h
records (Some r) a h = h

-- ---- one claim

module _ (law : SoundGives) (s : CrewState) (w : World) (t : LocksTied s w) where
  pub gives : Gives (entry_in s.facility.locks) w
  gives = law (entry_in s.facility.locks) w t.sound

  pub told : (a : LockClaim) → Contains (claims_in s) a → IsTold s.members a
  told a is = each_in (IsTold s.members) (claims_in s) a (all_told s w t) is

  -- the claim is in the world
  pub in_world : (a : LockClaim) → IsTold s.members a → w.claims a.member a.owner (number a.name) ≡ Some a.mode
  in_world a is = by (w.live a.member) refl
    where
      by : (b : Bool) → w.live a.member ≡ b → w.claims a.member a.owner (number a.name) ≡ Some a.mode
      by true live = subst (λ (z : Option Mode). ClaimTied (w.claims a.member a.owner (number a.name)) z (w.records a.member (number a.name))) is.knows (t.tied.claims a.member a.owner (number a.name) live)
      by false dead = absurd (none_some (known s.members a.member a.owner (number a.name)) a.mode (t.tied.down a.member a.owner (number a.name) dead) is.knows)

  among : (k : ℕ) → 1 ≤ k → k ≤ length s.members → is_member k ≡ true
  among k least most = and_from (leb 1 k) (leb k 32) (le-leb 1 k least) (le-leb k 32 (omega (arith, most, t.count, t.few)))

  interest : (a : LockClaim) → IsTold s.members a → w.interest a.member (entry_in s.facility.locks (number a.name)) ≡ interest_of s.facility.locks a.member (place_of s.facility.locks a.name)
  interest a is = t.tied.interest a.member (entry_in s.facility.locks (number a.name))
      ∙ cond-true (is_member a.member) (interest_of s.facility.locks a.member (entry_in s.facility.locks (number a.name))) no_interest (among a.member is.least is.most)
      ∙ ap (λ n. interest_of s.facility.locks a.member (place_of s.facility.locks n)) (named a.name)

  pub recorded_at : (k : ℕ) (n : Name) → 1 ≤ k → k ≤ length s.members → w.records k (number n) ≡ as_record (record_of s.facility.locks k n)
  recorded_at k n least most = t.tied.records k (number n)
      ∙ cond-true (is_member k) (as_record (record_of s.facility.locks k (name_at (number n)))) None (among k least most)
      ∙ ap (λ z. as_record (record_of s.facility.locks k z)) (named n)

  covered_by : (a : LockClaim) → IsTold s.members a → HasCover (entry_in s.facility.locks) w a.member (number a.name) a.mode → IsCovered s a
  covered_by a is (inl h) = inl (record {
    live = sym (t.tied.live a.member is.least (omega (arith, is.most, t.count))) ∙ h.0;
    interest = subst (λ (z : Interest). backs (class_of a.mode) z ≡ true) (interest a is) h.1;
  })
  covered_by a is (inr h) = inr (retains (record_of s.facility.locks a.member a.name) a.mode (subst (λ (z : Option Record). RetainedCovers z a.mode) (recorded_at a.member a.name is.least is.most) h))

  has_record : (a : LockClaim) → IsTold s.members a → is_recorded a.mode ≡ true → Records (record_of s.facility.locks a.member a.name) a.mode
  has_record a is e =
      let kept : IsRecorded (Some a.mode) (w.records a.member (number a.name)) = subst (λ (z : Option Mode). IsRecorded z (w.records a.member (number a.name))) (in_world a is) (t.sound.recorded a.member a.owner (number a.name)) in
      records (record_of s.facility.locks a.member a.name) a.mode (subst (λ (z : Option Record). RecordCovers z a.mode) (recorded_at a.member a.name is.least is.most) (kept e))

  -- ---- two claims

  apart : (a b : LockClaim) → IsTold s.members a → IsTold s.members b → Conflict a b → ⊥
  apart a b one two conflict =
      let same : w.claims b.member b.owner (number a.name) ≡ Some b.mode = subst (λ n. w.claims b.member b.owner (number n) ≡ Some b.mode) (sym conflict.same) (in_world b two) in
      let agree : are_compatible a.mode b.mode ≡ true = gives.compatible a.member b.member a.owner b.owner (number a.name) a.mode b.mode conflict.owners (in_world a one) same in
      let never : true ≡ false = sym agree ∙ conflict.modes in
      cc

pub tied_sound : SoundGives → TiedAreSound
tied_sound law s w t = record {
  apart = λ a b first second conflict. apart law s w t a b (told law s w t a first) (told law s w t b second) conflict;
  covered = λ a is. covered_by law s w t a (told law s w t a is) ((gives law s w t).covered a.member a.owner (number a.name) a.mode (in_world law s w t a (told law s w t a is)));
  recorded = λ a is e. has_record law s w t a (told law s w t a is) e;
}
