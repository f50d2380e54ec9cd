-- What the search keeps.
use Rattle.std.proofs.Common.{◌≡◌, ◌<◌, ◌≤◌, ◌+◌, ◌-◌, ℕ, zero, suc, Bool, true, false, List, [], ◌∷◌, ◌++◌, map, take, get_or, length, refl, sym, ap, subst, ◌∙◌, arith}
use Rattle.std.specs.Prelude.{◌&&◌, ◌||◌, not, nat_le}
use Rattle.std.specs.List.{list_any}
use Rattle.std.proofs.lemmas.List.{get_or_append_left, take-append-le, take_all, get_or_default, length-append, length-map}
use Rattle.std.proofs.lemmas.Bool.{cases_lt}
use Rattle.std.proofs.Common.{⊎_elim}
use Rattle.std.proofs.Math.Seq.{get_or-append_right}
use Rattle.std.proofs.lemmas.List.Folds.{list_any-append, list_any_more}
use Rattle.ds_base.specs.declared.names.TranId.{TranId}
use Rattle.list_structure.specs.declared.wait.Wait.{Wait}
use Rattle.deadlock_cycle.specs.Cycles.{same_tran, waits_for, IsCycle}
use Rattle.deadlock_cycle.specs.Steps.{step_at, step_to, no_step, is_reached, GoesBack, GoesToFirst, IsFirst, LeadsTo}
use Rattle.deadlock_cycle.specs.declared.step.Step.{Step}
use Rattle.deadlock_cycle.proofs.Lists.{same_self, same_is}
use Rattle.deadlock_cycle.proofs.Walks.{and_left, and_right, no_cycle}

-- `left` tells which pairs were not yet taken out
pub record Kept (waits : List Wait) (tran : TranId) (left : TranId → TranId → Bool) (steps : List Step) (i : ℕ) : Type 0 where
  pub some : 0 < length steps
  pub within : i ≤ length steps
  pub back : GoesBack steps
  pub firsts : GoesToFirst steps
  pub leads : LeadsTo waits tran steps
  pub pairs : (a b : TranId) → left a b ≡ true → (waits_for waits a b && nat_le a.number tran.number) ≡ true
  pub reached : (a b : TranId) → waits_for waits a b ≡ true → nat_le a.number tran.number ≡ true → left a b ≡ false → (is_reached a steps ≡ true) × (same_tran a tran ≡ false)
  pub done : (a b : TranId) → is_reached b (take i steps) ≡ true → left a b ≡ false

and_false : (b : Bool) → (b && false) ≡ false
and_false true = refl
and_false false = refl

no_pair : (b : Bool) → b ≡ true → b ≡ false → ⊥
no_pair b h k = cc

or_left : (a b : Bool) → a ≡ true → (a || b) ≡ true
or_left true b h = refl
or_left false b h = cc

or_right : (a b : Bool) → b ≡ true → (a || b) ≡ true
or_right true b h = refl
or_right false b h = h

first_reached : (steps : List Step) (t : TranId) → 0 < length steps → (step_at steps 0).at ≡ t → is_reached t steps ≡ true
first_reached [] t l e = absurd (omega arith)
first_reached (s ∷ steps) t l e = or_left _ _ (subst (λ u. same_tran s.at u ≡ true) e (same_self s.at))

reached_before : (steps : List Step) (n i : ℕ) (t : TranId) → n < i → n < length steps → same_tran (step_at steps n).at t ≡ true → is_reached t (take i steps) ≡ true
reached_before [] n i t h l e = absurd (omega arith)
reached_before (s ∷ steps) n zero t h l e = absurd (omega arith)
reached_before (s ∷ steps) zero (suc i) t h l e = or_left _ _ e
reached_before (s ∷ steps) (suc n) (suc i) t h l e = or_right _ _ (reached_before steps n i t (omega arith) (omega arith) e)

-- ---- the steps of a list of waiters

reached_map : (i : ℕ) (list : List TranId) (a : TranId) → is_reached a (map (step_to i) list) ≡ list_any (λ w. same_tran w a) list
reached_map i [] a = refl
reached_map i (t ∷ list) a = ap (λ b. same_tran t a || b) (reached_map i list a)

placed : (i : ℕ) (list : List TranId) (j : ℕ) → j < length list → ((step_at (map (step_to i) list) j).next ≡ i) × (list_any (λ w. same_tran w (step_at (map (step_to i) list) j).at) list ≡ true)
placed i [] j l = absurd (omega arith)
placed i (t ∷ list) zero l = (refl, or_left _ _ (same_self t))
placed i (t ∷ list) (suc j) l = let p = placed i list j (omega arith) in (p.0, or_right _ _ p.1)

module _ (waits : List Wait) (tran : TranId) (left : TranId → TranId → Bool) where
  -- where each step was taken, no cycle is left
  pub ended : (steps : List Step) (i : ℕ) → Kept waits tran left steps i → length steps ≤ i → (cycle : List TranId) → IsCycle waits tran cycle → ⊥
  ended steps i k l = no_cycle waits tran (λ t. is_reached t steps)
      (λ a b w n h. k.reached a b w n (k.done a b (ap (is_reached b) (take_all i steps l) ∙ h)))
      (first_reached steps tran k.some k.leads.first)

-- the step that the code reads
pub read_step : (steps : List Step) (i : ℕ) (s : Step) → i < length steps → s ≡ get_or steps i s → s ≡ step_at steps i
read_step steps i s l is = is ∙ get_or_default steps i s no_step l

module _ (waits : List Wait) (tran : TranId) (left : TranId → TranId → Bool) (steps : List Step) (i : ℕ) (s : Step) (k : Kept waits tran left steps i) (is : s ≡ step_at steps i) where
  -- no step before one with waiters is of its transaction
  pub is_first : (a : TranId) → i < length steps → left a s.at ≡ true → IsFirst steps i
  is_first a l h n lower = apart (same_tran (step_at steps n).at (step_at steps i).at) refl
    where
      apart : (same : Bool) → same_tran (step_at steps n).at (step_at steps i).at ≡ same → same ≡ false
      apart false e = refl
      apart true e = absurd (no_pair (left a s.at) h (k.done a s.at (reached_before steps n i s.at lower (omega arith) (ap (λ t. same_tran (step_at steps n).at t.at) is ∙ e))))

  pub waits_back : left tran s.at ≡ true → waits_for waits tran (step_at steps i).at ≡ true
  waits_back h = subst (λ t. waits_for waits tran t.at ≡ true) is (and_left _ _ (k.pairs tran s.at h))

-- a step that leads back along a pair
pub record Follows (waits : List Wait) (tran : TranId) (steps : List Step) (s : Step) (k : ℕ) : Type 0 where
  pub back : s.next < k
  pub first : IsFirst steps s.next
  pub waits_on : waits_for waits s.at (step_at steps s.next).at ≡ true
  pub below : nat_le s.at.number tran.number ≡ true

module _ (waits : List Wait) (tran : TranId) (left : TranId → TranId → Bool) (steps : List Step) (i : ℕ) (k : Kept waits tran left steps i) (l : i < length steps) (list : List TranId) (given : (a : TranId) → list_any (λ w. same_tran w a) list ≡ left a (step_at steps i).at) where
  abbrev grown : List Step
  grown = steps ++ map (step_to i) list

  old_step : (n : ℕ) → n < length steps → step_at grown n ≡ step_at steps n
  old_step n h = get_or_append_left steps (map (step_to i) list) no_step n h

  still_first : (n : ℕ) → n < length steps → IsFirst steps n → IsFirst grown n
  still_first n h first m lower =
      ap (λ s. same_tran s.at (step_at grown n).at) (old_step m (omega arith)) ∙ ap (λ s. same_tran (step_at steps m).at s.at) (old_step n h) ∙ first m lower

  old_follows : (n : ℕ) → 0 < n → n < length steps → Follows waits tran grown (step_at steps n) n
  old_follows n p h =
      let b : (step_at steps n).next < n = k.back n p h in
      record {
        back = b;
        first = still_first (step_at steps n).next (omega arith) (k.firsts n p h);
        waits_on = subst (λ s. waits_for waits (step_at steps n).at s.at ≡ true) (sym (old_step (step_at steps n).next (omega arith))) (k.leads.waits_on n p h);
        below = k.leads.below n p h;
      }

  new_follows : (s : Step) (n : ℕ) → length steps ≤ n → s.next ≡ i → list_any (λ w. same_tran w s.at) list ≡ true → Follows waits tran grown s n
  new_follows s n h e m =
      let at_pair = k.pairs s.at (step_at steps i).at (sym (given s.at) ∙ m) in
      record {
        back = omega arith;
        first = subst (IsFirst grown) (sym e) (still_first i l (is_first waits tran left steps i (step_at steps i) k refl s.at l (sym (given s.at) ∙ m)));
        waits_on = subst (λ j. waits_for waits s.at (step_at grown j).at ≡ true) (sym e) (subst (λ x. waits_for waits s.at x.at ≡ true) (sym (old_step i l)) (and_left _ _ at_pair));
        below = and_right _ _ at_pair;
      }

  follows : (n : ℕ) → 0 < n → n < length grown → Follows waits tran grown (step_at grown n) n
  follows n p h = ⊎_elim
      (λ old. subst (λ s. Follows waits tran grown s n) (sym (old_step n old)) (old_follows n p old))
      (λ new.
      let j : n - length steps < length list = omega (arith, length-append steps (map (step_to i) list), length-map list (step_to i)) in
      let at : step_at grown n ≡ step_at (map (step_to i) list) (n - length steps) = get_or-append_right steps (map (step_to i) list) n no_step new in
      let p = placed i list (n - length steps) j in
      subst (λ s. Follows waits tran grown s n) (sym at) (new_follows (step_at (map (step_to i) list) (n - length steps)) n new p.0 p.1))
      (cases_lt n (length steps))

  module _ (left' : TranId → TranId → Bool) (gone : (a b : TranId) → left' a b ≡ (left a b && not (same_tran (step_at steps i).at b))) (absent : list_any (λ w. same_tran w tran) list ≡ false) where
    reached' : (a b : TranId) → (here same : Bool) → left a b ≡ here → same_tran (step_at steps i).at b ≡ same → (here && not same) ≡ false → waits_for waits a b ≡ true → nat_le a.number tran.number ≡ true → (is_reached a grown ≡ true) × (same_tran a tran ≡ false)
    reached' a b false same e f out w n =
        let r = k.reached a b w n e in
        (list_any-append (λ s. same_tran s.at a) steps (map (step_to i) list) ∙ or_left _ _ r.0, r.1)
    reached' a b true false e f out w n = absurd (no_pair (true && not false) refl out)
    reached' a b true true e f out w n =
        let x : (step_at steps i).at ≡ b = same_is (step_at steps i).at b f in
        let m : list_any (λ w. same_tran w a) list ≡ true = given a ∙ ap (left a) x ∙ e in
        (list_any-append (λ s. same_tran s.at a) steps (map (step_to i) list) ∙ or_right _ _ (reached_map i list a ∙ m), not_tran a (same_tran a tran) refl m)
      where
        not_tran : (a : TranId) (same : Bool) → same_tran a tran ≡ same → list_any (λ w. same_tran w a) list ≡ true → same ≡ false
        not_tran a false e m = refl
        not_tran a true e m = absurd (no_pair (list_any (λ w. same_tran w tran) list) (subst (λ t. list_any (λ w. same_tran w t) list ≡ true) (same_is a tran e) m) absent)

    done' : (a b : TranId) → (before same : Bool) → is_reached b (take i steps) ≡ before → same_tran (step_at steps i).at b ≡ same → (before || same) ≡ true → left' a b ≡ false
    done' a b true same e f h = gone a b ∙ ap (λ x. x && not (same_tran (step_at steps i).at b)) (k.done a b e)
    done' a b false true e f h = gone a b ∙ ap (λ s. left a b && not s) f ∙ and_false (left a b)
    done' a b false false e f h = absurd (no_pair false h refl)

    -- the waiters of one step more are taken
    pub next : Kept waits tran left' grown (i + 1)
    next = record {
      some = omega (arith, k.some, length-append steps (map (step_to i) list));
      within = omega (arith, length-append steps (map (step_to i) list));
      back = λ n p h. (follows n p h).back;
      firsts = λ n p h. (follows n p h).first;
      leads = record {
        first = ap (λ s. s.at) (old_step 0 k.some) ∙ k.leads.first;
        waits_on = λ n p h. (follows n p h).waits_on;
        below = λ n p h. (follows n p h).below;
      };
      pairs = λ a b h. k.pairs a b (and_left _ _ (sym (gone a b) ∙ h));
      reached = λ a b w n out. reached' a b (left a b) (same_tran (step_at steps i).at b) refl refl (sym (gone a b) ∙ out) w n;
      done = λ a b h. done' a b (is_reached b (take i steps)) (same_tran (step_at steps i).at b) refl refl
          (sym (ap (is_reached b) (take-append-le (i + 1) steps (map (step_to i) list) (omega arith)) ∙ list_any_more (λ s. same_tran s.at b) steps i no_step l) ∙ h);
    }
