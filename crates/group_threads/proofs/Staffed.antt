-- Workers and their desks.
use Rattle.std.proofs.Common.{◌≡◌, ℕ, suc, List, [], ◌∷◌, ◌++◌, length, take, drop, map, sym, ap, ◌∙◌, arith}
use mathlib.Core.List.{reverse}
use Rattle.std.proofs.lemmas.List.{append-nil, append_assoc, reverse-append, take_all, drop_all}
use Rattle.turn_gate.specs.Seated.{TurnId, Sat}
use Rattle.turn_story.specs.declared.step.Start.{Start}
use Rattle.turn_story.specs.declared.step.Step.{Step}
use Rattle.turn_story.specs.Desks.{AllAt}

module _ {M P W D : Type 0} (caller : ℕ → ℕ) (z : TurnId) (start : Start M P) (desk : W → D) (seat : D → Sat (Start M P) (Step M P)) (part : D → P) where
  -- where the desks are right, the workers are
  pub at_desks : (ws : List W) (k : ℕ) → AllAt caller z start (map desk ws) seat part k → AllAt caller z start ws (λ w. seat (desk w)) (λ w. part (desk w)) k
  at_desks [] k h = tt
  at_desks (w ∷ ws) k h = (h.0, h.1, at_desks ws (suc k) h.2)

  -- and the other way round
  pub at_workers : (ws : List W) (k : ℕ) → AllAt caller z start ws (λ w. seat (desk w)) (λ w. part (desk w)) k → AllAt caller z start (map desk ws) seat part k
  at_workers [] k h = tt
  at_workers (w ∷ ws) k h = (h.0, h.1, at_workers ws (suc k) h.2)

-- what a slice of a whole list left there is the list afterwards
pub written : {A : Type 0} (n : ℕ) (new old : List A) → length new ≡ length old → n ≡ length old → take n (new ++ drop (length new) old) ≡ new
written n new old same all =
    ap (λ l. take n (new ++ l)) (drop_all (length new) old (omega arith)) ∙ (ap (take n) (append-nil new) ∙ take_all n new (omega arith))

-- the last of the workers is let go, and its desk put to the others
pub put_back : {W D : Type 0} (desk : W → D) (all ws rest : List W) (ds : List D) (w : W) → map desk all ≡ ds ++ map desk (reverse ws) → ws ≡ rest ++ w ∷ [] → map desk all ≡ (ds ++ desk w ∷ []) ++ map desk (reverse rest)
put_back desk all ws rest ds w before is =
    before ∙ (ap (λ l. ds ++ map desk (reverse l)) is ∙ (ap (λ l. ds ++ map desk l) (reverse-append rest (w ∷ [])) ∙ sym (append_assoc ds (desk w ∷ []) (map desk (reverse rest)))))

-- the last of the desks gets a worker, which is put before the others
pub put_first : {W D : Type 0} (desk : W → D) (all ds rest : List D) (ws : List W) (w : W) (d : D) → all ≡ ds ++ map desk (reverse ws) → ds ≡ rest ++ d ∷ [] → desk w ≡ d → all ≡ rest ++ map desk (reverse (ws ++ w ∷ []))
put_first desk all ds rest ws w d before is same =
    before ∙ (ap (λ l. l ++ map desk (reverse ws)) is ∙ (append_assoc rest (d ∷ []) (map desk (reverse ws))
    ∙ (ap (λ x. rest ++ (x ∷ map desk (reverse ws))) (sym same) ∙ ap (λ l. rest ++ map desk l) (sym (reverse-append ws (w ∷ []))))))
