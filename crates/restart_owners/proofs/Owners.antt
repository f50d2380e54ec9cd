-- Owners behind failures, at the begin of a restart, and behind events of others.
use Rattle.std.proofs.Common.{◌≡◌, ◌⊎◌, ℕ, refl, sym, ◌∙◌, ap, subst, Bool, true, false, inl, inr, Option, Some, None}
use Rattle.std.specs.Prelude.{◌==◌, if◌then◌else◌}
use Rattle.std.proofs.lemmas.Bool.{cases_eq, cond-false, ne_eqb}
use Rattle.std.proofs.lemmas.Option.{none-some}
use Rattle.lock_names.specs.Given.{Name}
use Rattle.lock_names.specs.Given.name_variants as name
use Rattle.lock_names.specs.declared.mode.Mode.{Mode}
use Rattle.lock_names.specs.declared.mode.Mode.TheVariants.{IS, IX, S, U, SIX, X}
use Rattle.lock_names.specs.Modes.{is_recorded, join_of}
use Rattle.lock_structure.specs.declared.chain.Record.{Record as FacilityRecord}
use Rattle.lock_structure.specs.Locks.{record_of}
use Rattle.lock_protocol.specs.Machine.{RetainedCovers, World as LockWorld, failed, retained_claim}
use Rattle.lock_protocol.specs.Words.{SoundGives}
use Rattle.lock_world.specs.Numbers.{AreNumbered, name_at, number}
use Rattle.lock_world.specs.Views.{as_record, entry_in, is_member, record_in}
use Rattle.page_world.specs.Numbers.{page_at}
use Rattle.restart_marks.specs.State.{RestartState}
use Rattle.retained_pages.specs.Retained.{FailuresRetain, Retains, in_x}
use Rattle.restart_owners.specs.Owners.{OthersOwn, OwnersFail, RestartsBegin}

-- ---- a record that covers X
recorded_x : is_recorded X ≡ true
unfolding is_recorded
recorded_x = refl

covers_x : (m : Mode) → join_of m X ≡ X
unfolding join_of
covers_x IS = refl
covers_x IX = refl
covers_x S = refl
covers_x U = refl
covers_x SIX = refl
covers_x X = refl

covered : (b : Bool) (o : Option FacilityRecord) → RetainedCovers (if b then as_record o else None) X → o ≡ Some in_x
covered true None c = absurd c
covered true (Some r) c =
    let retained : r.retained ≡ true = c.0 in
    let mode : r.mode ≡ X = sym c.1 ∙ covers_x r.mode in
    λ i. Some (record { mode = mode i; retained = retained i })
covered false o c = absurd c

pub owners_fail : AreNumbered → SoundGives → FailuresRetain → OwnersFail
owners_fail numbers gives retain l f v held left owner m sound tied is fails moved stands = record { owners = owners; own = own }
  where
    left_is : moved.world ≡ failed l m
    left_is = moved.run.2 ∙ moved.run.1

    claimed : (n : ℕ) → l.claims m 0 (number (name.Page (page_at n))) ≡ Some X → Retains v m (page_at n)
    claimed n claim =
        let c = number (name.Page (page_at n)) in
        let outlives = (gives (entry_in f.locks) l sound).outlives m 0 c X claim recorded_x in
        let there : RetainedCovers (moved.world.records m c) X = subst (λ (z : LockWorld). RetainedCovers (z.records m c) X) (sym left_is) outlives.1 in
        let here : RetainedCovers (record_in v.locks m c) X = subst (λ z. RetainedCovers z X) (moved.tied.records m c) there in
        record { member = is; has = ap (λ (z : Name). record_of v.locks m z) (sym (numbers.named (name.Page (page_at n)))) ∙ covered (is_member m) (record_of v.locks m (name_at c)) here }

    own : (n : ℕ) → owner n ≡ Some m → Retains v m (page_at n)
    own n e = elim (stands n m e) [
      | inl claim ↦ claimed n claim
      | inr retained ↦ retain f v m m (page_at n) fails retained
    ]

    owners : (n k : ℕ) → owner n ≡ Some k → (moved.world.claims k 0 (number (name.Page (page_at n))) ≡ Some X) ⊎ Retains v k (page_at n)
    owners n k e = elim (cases_eq k m) [
      | inl same ↦ inr (subst (λ z. Retains v z (page_at n)) (sym same) (own n (e ∙ ap Some same)))
      | inr ne ↦ elim (stands n k e) [
        | inl claim ↦ (let c = number (name.Page (page_at n)) in
            inl (ap (λ (z : LockWorld). z.claims k 0 c) left_is ∙ cond-false (k == m) (retained_claim (l.claims k 0 c)) (l.claims k 0 c) (ne_eqb k m ne) ∙ claim))
        | inr retained ↦ inr (retain f v m k (page_at n) fails retained)
      ]
    ]

pub restarts_begin : RestartsBegin
restarts_begin f owner m s fresh own = record {
  claimed = λ p e. absurd (none-some p (sym (ap (λ (z : RestartState). z.claim) fresh.rest) ∙ e));
  retained = λ n e. inr (subst (λ z. Retains f z (page_at n)) (sym member) (own n (e ∙ ap Some member)));
}
  where
    member : s.member ≡ m
    member = ap (λ (z : RestartState). z.member) fresh.rest

pub others_own : OthersOwn
others_own g left forced force f v m s same ne retains o = record {
  claimed = λ p e. same.keeps s.member _ ne (o.claimed p e);
  retained = λ n e. elim (o.retained n (same.takes s.member n ne e)) [
    | inl claim ↦ inl claim
    | inr r ↦ inr (retains (page_at n) r)
  ];
}
