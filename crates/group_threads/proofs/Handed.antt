-- The works of a round, handed out and back.
use Rattle.std.proofs.Common.{◌≡◌, ℕ, suc, ◌+◌, ◌<◌, ◌≤◌, List, [], ◌∷◌, ◌++◌, length, refl, sym, ap, subst, ◌∙◌, arith}
use mathlib.Core.List.{reverse}
use Rattle.std.specs.Arc.{arc_value}
use Rattle.std.proofs.lemmas.List.{reverse-append}
use Rattle.turn_story.specs.declared.stepping.Stepping.{Ghosts}
use Rattle.turn_story.specs.Desks.{AllAt}
use Rattle.standing_threads.specs.Rows.{AllOf, LeavesEach}
use Rattle.group_threads.specs.declared.errand.Errand.{Errand}
use Rattle.group_threads.specs.declared.errand.Stage.{Stage}
use Rattle.group_threads.specs.Desks.{IsMemberAt, member_in}
use Rattle.group_threads.specs.Errands.{IsReady, Leaves, StandAt, ErrandsAt}

module _ {M P G : Type 0} {told : Ghosts M P} (z : Stage M P told) where
  pub all_ready : (k : ℕ) (es : List (Errand M G P told)) → k + length es ≤ 64 → ErrandsAt z k es → AllOf IsReady es
  all_ready k [] few h = tt
  all_ready k (e ∷ es) few h =
      let number : e.number ≡ k = h.0 in
      let less : e.number < 64 = omega arith in
      let more : suc k + length es ≤ 64 = omega arith in
      let here = subst (λ n. IsMemberAt z.turn n e.worker.desk.seat e.worker.desk.part) (sym number) h.2 in
      ((less, subst (λ s. IsMemberAt s.turn e.number e.worker.desk.seat e.worker.desk.part) (sym h.1) here), all_ready (suc k) es more h.3)

  pub all_left : (k : ℕ) (es fs : List (Errand M G P told)) → ErrandsAt z k es → LeavesEach Leaves es fs → ErrandsAt z k fs
  all_left k [] [] h left = tt
  all_left k [] (f ∷ fs) h left = absurd left
  all_left k (e ∷ es) [] h left = absurd left
  all_left k (e ∷ es) (f ∷ fs) h left =
      let there = subst (λ s. IsMemberAt s.turn e.number f.worker.desk.seat f.worker.desk.part) h.1 left.0.2 in (
        left.0.0 ∙ h.0,
        ap arc_value left.0.1 ∙ h.1,
        subst (λ n. IsMemberAt z.turn n f.worker.desk.seat f.worker.desk.part) h.0 there,
        all_left (suc k) es fs h.3 left.1,
      )

  pub at_errands : (k : ℕ) (es : List (Errand M G P told)) → StandAt z k es → AllAt member_in z.turn.id z.turn.start es (λ e. e.worker.desk.seat) (λ e. e.worker.desk.part) k → ErrandsAt z k es
  at_errands k [] h at = tt
  at_errands k (e ∷ es) h at = (h.0, h.1, (at.0, at.1), at_errands (suc k) es h.2 at.2)

  pub errands_at : (k : ℕ) (es : List (Errand M G P told)) → ErrandsAt z k es → AllAt member_in z.turn.id z.turn.start es (λ e. e.worker.desk.seat) (λ e. e.worker.desk.part) k
  errands_at k [] h = tt
  errands_at k (e ∷ es) h = (h.2.0, h.2.1, errands_at (suc k) es h.3)

  pub left_length : (es fs : List (Errand M G P told)) → LeavesEach Leaves es fs → length fs ≡ length es
  left_length [] [] left = refl
  left_length [] (f ∷ fs) left = absurd left
  left_length (e ∷ es) [] left = absurd left
  left_length (e ∷ es) (f ∷ fs) left = ap suc (left_length es fs left.1)

  -- one more before the others
  pub stand_more : (n m : ℕ) (es : List (Errand M G P told)) (e : Errand M G P told) → e.number ≡ n → arc_value e.stage ≡ z → m ≡ suc n → StandAt z m (reverse es) → StandAt z n (reverse (es ++ e ∷ []))
  stand_more n m es e number stage next h =
      subst (λ l. StandAt z n l) (sym (reverse-append es (e ∷ []))) (number, stage, subst (λ k. StandAt z k (reverse es)) next h)
