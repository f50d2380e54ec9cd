-- The laws of the machine.
use Rattle.std.proofs.Common.{◌≡◌, ℕ, zero, suc, List, [], ◌∷◌, ◌++◌, refl, sym, ap, ◌∙◌}
use Rattle.std.specs.Prelude.{Option, Some, slice_get, slice_set}
use Rattle.turn_story.specs.declared.step.Step.{Step}
use Rattle.turn_story.specs.Chains.{part_of, with_part}
use Rattle.turn_story.specs.Histories.{parts_after}

module _ {P : Type 0} where
  get_set_else : (ps : List P) (j k : ℕ) (p : P) → ¬ (j ≡ k) → slice_get (slice_set ps j p) k ≡ slice_get ps k
  get_set_else [] j k p other = refl
  get_set_else (x ∷ xs) zero zero p other = absurd (other refl)
  get_set_else (x ∷ xs) zero (suc k) p other = refl
  get_set_else (x ∷ xs) (suc j) zero p other = refl
  get_set_else (x ∷ xs) (suc j) (suc k) p other = get_set_else xs j k p (λ h. other (ap suc h))

  -- another caller's part stays
  pub part_with_else : (ps : List P) (c by : ℕ) (p : P) → ¬ (c ≡ by) → part_of (with_part ps c p) by ≡ part_of ps by
  part_with_else ps zero by p other = refl
  part_with_else ps (suc j) zero p other = refl
  part_with_else ps (suc j) (suc k) p other = get_set_else ps j k p (λ h. other (ap suc h))

  pub part_same : (o : Option P) (p q : P) → q ≡ p → o ≡ Some p → o ≡ Some q
  part_same o p q same h = h ∙ ap Some (sym same)

module _ {M P : Type 0} (caller : ℕ → ℕ) where
  -- the parts after one event more
  pub parts_after-append : (ps : List P) (log : List (Step M P)) (x : Step M P) → parts_after caller ps (log ++ x ∷ []) ≡ with_part (parts_after caller ps log) (caller x.event) x.part.value
  parts_after-append ps [] x = refl
  parts_after-append ps (y ∷ ys) x = parts_after-append (with_part ps (caller y.event) y.part.value) ys x

  -- another caller's event leaves the part
  pub part_else : (by : ℕ) (x : Step M P) (p : P) (ps : List P) (log : List (Step M P)) → ¬ (caller x.event ≡ by)
      → part_of (parts_after caller ps log) by ≡ Some p → part_of (parts_after caller ps (log ++ x ∷ [])) by ≡ Some p
  part_else by x p ps log other h = ap (λ l. part_of l by) (parts_after-append ps log x) ∙ (part_with_else (parts_after caller ps log) (caller x.event) by x.part.value other ∙ h)
