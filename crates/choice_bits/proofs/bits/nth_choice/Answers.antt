use Rattle.std.proofs.Common.{◌≡◌, ℕ, ◌+◌, ◌-◌, ◌<◌, true, false, List, slice_get, sym, ap, ◌∙◌, arith}
use Rattle.choice_bits.specs.Choices.{choices_from, has_choice}
use Rattle.choice_bits.proofs.Choices.{all_choices, get_later, none_left, ready_next, unready_next}
use Rattle.choice_bits.proofs.bits.nth_choice.Goals.{then-has_choice+else-left-eq0, else-has_choice}
use Rattle.choice_bits.proofs.bits.nth_choice.Goals as goal

pub loop-choice-init : goal.loop-choice-init
loop-choice-init c = ap (λ (xs : List ℕ). slice_get xs c.args.n) (all_choices c.args.ready)

pub returns-then-left-eq0-clause-nth : goal.returns-then-left-eq0-clause-nth
returns-then-left-eq0-clause-nth c =
    let within : c.loop-choice.choice < 23 = omega arith in
    let has : has_choice c.args.ready c.loop-choice.choice ≡ true = sym c.has_choice.ensures ∙ c.if-has_choice.true in
    sym (ap (λ (xs : List ℕ). slice_get xs 0) (ready_next c.loop-choice.choice c.args.ready within has))
    ∙ (ap (λ (k : ℕ). slice_get (choices_from (23 - c.loop-choice.choice) c.loop-choice.choice c.args.ready) k) (sym c.if-left-eq0.true) ∙ c.loop-choice.invariant)

pub loop-choice-preserved : goal.loop-choice-preserved
loop-choice-preserved c =
    let within : c.loop-choice.choice < 23 = omega arith in
    let rest : List ℕ = choices_from (23 - (c.loop-choice.choice + 1)) (c.loop-choice.choice + 1) c.args.ready in
    elim c.if-has_choice.branch [
      | then-has_choice+else-left-eq0 w ↦ (
          let has : has_choice c.args.ready c.loop-choice.choice ≡ true = sym c.has_choice.ensures ∙ w.if-has_choice.true in
          ap (slice_get rest) w.left-is
          ∙ (sym (get_later rest c.loop-choice.choice c.loop-choice.left (λ zero. omega (arith, zero, w.if-left-eq0)))
          ∙ (sym (ap (λ (xs : List ℕ). slice_get xs c.loop-choice.left) (ready_next c.loop-choice.choice c.args.ready within has)) ∙ c.loop-choice.invariant))
          )
      | else-has_choice w ↦ (
          let has : has_choice c.args.ready c.loop-choice.choice ≡ false = sym c.has_choice.ensures ∙ w.if-has_choice.false in
          ap (slice_get rest) w.left-is ∙ (sym (ap (λ (xs : List ℕ). slice_get xs c.loop-choice.left) (unready_next c.loop-choice.choice c.args.ready within has)) ∙ c.loop-choice.invariant)
          )
    ]

pub returns-clause-nth : goal.returns-clause-nth
returns-clause-nth c = sym (ap (λ (xs : List ℕ). slice_get xs c.loop-choice.left) (none_left c.loop-choice.choice c.args.ready (omega arith))) ∙ c.loop-choice.invariant
