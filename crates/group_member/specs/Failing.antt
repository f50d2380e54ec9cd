-- Whose transactions a failure stops.
use Rattle.std.specs.Prelude.{ℕ, ◌-◌, ◌==◌, Bool, false, Option, Some, None, slice_get, if◌then◌else◌}
use Rattle.ds_model.specs.declared.script.Phase.{Phase}
use Rattle.ds_model.specs.declared.script.Script.{Script}
use Rattle.script_fates.specs.Fated.{is_in_part}

-- the phase that began last
abbrev pub phase_in_hand : Script → ℕ → Option Phase
phase_in_hand script begun = if begun == 0 then None else slice_get script.phases (begun - 1)

abbrev pub is_in_part_of : Option Phase → ℕ → ℕ → Bool
is_in_part_of None member n = false
is_in_part_of (Some phase) member n = is_in_part phase member n

-- the member has a transaction of this number in the phase that began last
abbrev pub is_in_hand : Script → ℕ → ℕ → ℕ → Bool
is_in_hand script begun member n = is_in_part_of (phase_in_hand script begun) member n
