-- The transactions from which a search reaches a transaction.
use Rattle.std.specs.Prelude.{◌≡◌, ℕ, ◌<◌, Bool, true, false, List, length, nat_le, slice_index_or}
use Rattle.std.specs.List.{list_any}
use Rattle.ds_base.specs.declared.names.TranId.{TranId}
use Rattle.list_structure.specs.declared.wait.Wait.{Wait}
use Rattle.deadlock_cycle.specs.declared.step.Step.{Step}
use Rattle.deadlock_cycle.specs.Cycles.{same_tran, waits_for}

abbrev pub no_step : Step
no_step = record { at = record { member = 0; number = 0 }; next = 0 }

abbrev pub step_at : List Step → ℕ → Step
step_at steps k = slice_index_or steps k no_step

-- the step of a transaction that waits for the one at `next`
abbrev pub step_to : ℕ → TranId → Step
step_to next t = record { at = t; next = next }

-- whether the transaction has a step
abbrev pub is_reached : TranId → List Step → Bool
is_reached t steps = list_any (λ s. same_tran s.at t) steps

-- each step but the first leads to one before it
abbrev pub GoesBack : List Step → Type 0
GoesBack steps = (k : ℕ) → 0 < k → k < length steps → (step_at steps k).next < k

-- no step before this one is of its transaction
abbrev pub IsFirst : List Step → ℕ → Type 0
IsFirst steps n = (k : ℕ) → k < n → same_tran (step_at steps k).at (step_at steps n).at ≡ false

-- each step leads to the first one of a transaction
abbrev pub GoesToFirst : List Step → Type 0
GoesToFirst steps = (k : ℕ) → 0 < k → k < length steps → IsFirst steps (step_at steps k).next

-- the steps lead to `tran` along the pairs, over no higher number
pub record LeadsTo (waits : List Wait) (tran : TranId) (steps : List Step) : Type 0 where
  pub first : (step_at steps 0).at ≡ tran
  pub waits_on : (k : ℕ) → 0 < k → k < length steps → waits_for waits (step_at steps k).at (step_at steps (step_at steps k).next).at ≡ true
  pub below : (k : ℕ) → 0 < k → k < length steps → nat_le (step_at steps k).at.number tran.number ≡ true
