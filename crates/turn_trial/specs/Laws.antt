-- The laws of the machine.
use Rattle.std.proofs.Common.{◌≡◌, ℕ, ◌%◌, ◌^◌, List, [], ◌∷◌, ◌++◌, length, sym, ap, ◌∙◌}
use Rattle.turn_gate.proofs.Sums.{events_by_else}
use Rattle.turn_trial.specs.Recorded.{caller_of, Counts}

pub counts_else : {B : Type 0} (by e p : ℕ) (b : B) (log : List ℕ) → ¬ (caller_of e ≡ by) → Counts by p log → Counts by p (log ++ e ∷ [])
counts_else by e p b log other h = h ∙ ap (λ l. length l % 2 ^ 64) (sym (events_by_else caller_of by e log other))

pub counts_same : {B : Type 0} (by p q : ℕ) (b : B) (log : List ℕ) → q ≡ p → Counts by p log → Counts by q log
counts_same by p q b log same h = same ∙ h
