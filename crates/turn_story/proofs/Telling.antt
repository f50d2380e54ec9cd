-- One event more.
use Rattle.std.proofs.Common.{◌≡◌, ℕ, zero, suc, List, [], ◌∷◌, ◌++◌, map, refl, sym, ap, ◌∙◌, subst}
use Rattle.std.specs.Prelude.{Some, slice_get, slice_set}
use Rattle.turn_story.specs.declared.step.Start.{Start}
use Rattle.turn_story.specs.declared.step.Step.{Step}
use Rattle.turn_story.specs.Chains.{part_of, with_part, Goes, Leads}
use Rattle.turn_story.specs.Histories.{number_of, value_after, parts_after, IsTold}
use Rattle.turn_story.specs.Laws.{parts_after-append}

module _ {P : Type 0} where
  get_set_same : (ps : List P) (k : ℕ) (p q : P) → slice_get ps k ≡ Some p → slice_get (slice_set ps k q) k ≡ Some q
  get_set_same [] k p q had = cc
  get_set_same (x ∷ xs) zero p q had = refl
  get_set_same (x ∷ xs) (suc k) p q had = get_set_same xs k p q had

  -- the caller's part, once it is another
  pub part_with : (ps : List P) (c : ℕ) (p q : P) → part_of ps c ≡ Some p → part_of (with_part ps c q) c ≡ Some q
  part_with ps zero p q had = cc
  part_with ps (suc k) p q had = get_set_same ps k p q had

module _ {M P : Type 0} (caller : ℕ → ℕ) (steps : M → P → ℕ → M → P → Type 0) where
  -- a chain goes on by one event
  pub leads_more : (log : List (Step M P)) (x : Step M P) (m n k : M) (ps qs rs : List P)
      → Leads caller steps m ps (map number_of log) n qs → Goes caller steps n qs x.event k rs → Leads caller steps m ps (map number_of (log ++ x ∷ [])) k rs
  leads_more [] x m n k ps qs rs h g = (k, rs, subst (λ a. Goes caller steps a ps x.event k rs) h.0 (subst (λ l. Goes caller steps n l x.event k rs) h.1 g), (refl, refl))
  leads_more (y ∷ ys) x m n k ps qs rs h g = (h.0, h.1, h.2, leads_more ys x h.0 n k h.1 qs rs h.3 g)

  value_after-append : (m : M) (log : List (Step M P)) (x : Step M P) → value_after m (log ++ x ∷ []) ≡ x.value.value
  value_after-append m [] x = refl
  value_after-append m (y ∷ ys) x = value_after-append y.value.value ys x

  -- the history goes on by one event, which leaves the caller its part
  pub told_more : (m : M) (ps : List P) (log : List (Step M P)) (n : M) (p : P) (x : Step M P)
      → IsTold caller steps m ps log n → part_of (parts_after caller ps log) (caller x.event) ≡ Some p → steps n p x.event x.value.value x.part.value
      → IsTold caller steps m ps (log ++ x ∷ []) x.value.value × (part_of (parts_after caller ps (log ++ x ∷ [])) (caller x.event) ≡ Some x.part.value)
  told_more m ps log n p x told had step =
      let qs = parts_after caller ps log in
      let after = parts_after-append caller ps log x in (
        record {
          last = sym (value_after-append m log x);
          leads = leads_more log x m n x.value.value ps qs (parts_after caller ps (log ++ x ∷ [])) told.leads (record { had = p; has = x.part.value; mine = had; step = step; left = after });
        },
        ap (λ l. part_of l (caller x.event)) after ∙ part_with qs (caller x.event) p x.part.value had,
      )

  -- the same, of what a run says
  pub ran_more : (b c : Start M P) (log new : List (Step M P)) (n k now : M) (p q : P) (e : ℕ) (x : Step M P)
      → c ≡ b → new ≡ log ++ x ∷ [] → x.event ≡ e → x.value.value ≡ k → x.part.value ≡ q → now ≡ k
      → IsTold caller steps b.value.value b.parts.value.items log n → part_of (parts_after caller b.parts.value.items log) (caller e) ≡ Some p → steps n p e k q
      → IsTold caller steps c.value.value c.parts.value.items new now × (part_of (parts_after caller c.parts.value.items new) (caller e) ≡ Some q)
  ran_more b c log new n k now p q e x began is number value part left told had step =
      let had' : part_of (parts_after caller b.parts.value.items log) (caller x.event) ≡ Some p = subst (λ a. part_of (parts_after caller b.parts.value.items log) (caller a) ≡ Some p) (sym number) had in
      let step' : steps n p x.event x.value.value x.part.value = subst (λ (t : ℕ × (M × P)). steps n p t.0 t.1.0 t.1.1) (λ i. (sym number i, (sym value i, sym part i))) step in
      let more = told_more b.value.value b.parts.value.items log n p x told had' step' in
      let same : now ≡ x.value.value = left ∙ sym value in (
        subst (λ (t : Start M P × (List (Step M P) × M)). IsTold caller steps t.0.value.value t.0.parts.value.items t.1.0 t.1.1) (λ i. (sym began i, (sym is i, sym same i))) more.0,
        subst (λ (t : Start M P × (List (Step M P) × (ℕ × P))). part_of (parts_after caller t.0.parts.value.items t.1.0) (caller t.1.1.0) ≡ Some t.1.1.1) (λ i. (sym began i, (sym is i, (number i, part i)))) more.1,
      )
