use Rattle.std.proofs.Common.{◌≡◌, ℕ, ◌-◌, List, ◌++◌, length, ap, sym, subst, ◌∙◌, arith}
use Rattle.log_checkpoint.specs.Backwards.{SearchState, filled}
use Rattle.log_checkpoint.specs.Passed.{IsOf}
use Rattle.log_checkpoint.proofs.Steps.{wanted}
use Rattle.log_checkpoint.proofs.search.CheckpointSearch.fill.Goals as goal

pub overflow_sub-self : goal.overflow_sub-self
overflow_sub-self c = omega (arith, wanted c.args.self.now (length c.args.bytes.now) c.requires, ap (λ (s : SearchState). s.low) c.self.view_is)

abbrev state : ℕ → ℕ → List ℕ → SearchState
state block low hand = record { block = block; low = low; hand = hand }

pub returns-clause-log : goal.returns-clause-log
returns-clause-log c = λ log end is next.
    let same : state c.self.inside.block (c.self.inside.low - length c.args.bytes.now) c.in_ok-self-inside.field-0.items ≡ filled c.args.self.now c.args.bytes.now =
    ap (state c.self.inside.block (c.self.inside.low - length c.args.bytes.now)) (c.in_ok-self-inside.ensures ∙ ap (λ (t : List ℕ). c.args.bytes.now ++ t) c.deref.ensures.value)
    ∙ ap (λ (s : SearchState). filled s c.args.bytes.now) c.self.view_is in
    subst (IsOf log end) (sym same) (c.search_laws.ensures.filled log end c.args.self.now c.args.bytes.now is c.requires next)
