-- Cycles of waits.
use Rattle.std.specs.Prelude.{◌≡◌, ℕ, ◌==◌, ◌<◌, ◌≤◌, nat_lt, Bool, true, ◌&&◌, List, Option, Some, None}
use Rattle.std.specs.Int.{bit_at}
use Rattle.ds_base.specs.declared.names.TranId.{TranId}
use Rattle.ds_model.specs.declared.fate.Refusal.TheVariants as refusal
use Rattle.list_structure.specs.declared.wait.Wait.{Wait}
use Rattle.deadlock_cycle.specs.Cycles.{IsCycle}
use Rattle.member_trans.specs.declared.fate.Owner.TheVariants as owner
use Rattle.member_trans.specs.Trans.{is_forward}
use Rattle.member_needs.specs.Given.{MarksState, slot_tran, slot_id}
use Rattle.member_needs.specs.Given.{offered}
use Rattle.member_effects.specs.declared.told.Told.{Told}
use Rattle.member_effects.specs.declared.told.Told.TheVariants as told

-- the slot is one of these, and its transaction goes forward
abbrev pub is_looked : MarksState → ℕ → ℕ → Bool
is_looked s slots slot = (nat_lt slot 32 && (bit_at slots slot == 1)) && is_forward (slot_tran s slot).stage

-- no transaction of these slots below this one is the highest of a cycle
abbrev pub NoneBelow : MarksState → List Wait → ℕ → ℕ → Type 0
NoneBelow s waits slots slot = (k : ℕ) → 1 ≤ k → k < slot → is_looked s slots k ≡ true → (cycle : List TranId) → ¬ IsCycle waits (slot_id s k) cycle

-- the first of these slots whose transaction is the highest of a cycle, and the cycle
pub record IsFirst (s : MarksState) (waits : List Wait) (slots slot : ℕ) (cycle : List TranId) : Type 0 where
  pub from : 1 ≤ slot
  pub looked : is_looked s slots slot ≡ true
  pub is_cycle : IsCycle waits (slot_id s slot) cycle
  pub below : NoneBelow s waits slots slot

abbrev pub Finds : MarksState → List Wait → ℕ → Option (ℕ × List TranId) → Type 0
Finds s waits slots None = NoneBelow s waits slots 17
Finds s waits slots (Some x) = IsFirst s waits slots x.0 x.1

abbrev pub cycle_after : MarksState → ℕ → Option (ℕ × List TranId) → MarksState
cycle_after s place None = s
cycle_after s place (Some x) = offered s (owner.Slot x.0) (refusal.Deadlock x.1) place

abbrev pub cycle_told : Option (ℕ × List TranId) → Told
cycle_told None = told.NoCycle
cycle_told (Some x) = told.Deadlock x.0

-- the refusal is that of a cycle, where there is one
abbrev pub RefusesCycle : MarksState → List Wait → ℕ → ℕ → Told → MarksState → Type 0
RefusesCycle s waits slots place answer t =
    (found : Option (ℕ × List TranId)) × Finds s waits slots found × (answer ≡ cycle_told found) × (t ≡ cycle_after s place found)
