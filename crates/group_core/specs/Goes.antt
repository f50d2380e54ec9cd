-- How the disk goes on in a run, and at which events a call of it has failed.
use Rattle.std.specs.Prelude.{◌≡◌, ◌≢◌, ◌⊎◌, ℕ, ◌≤◌, Bool, true, false, List, [], ◌∷◌, ◌++◌, Option, Some, None, if◌then◌else◌}
use Rattle.ds_base.specs.Causes.{Rose}
use Rattle.group_core.specs.declared.fault.RunFault.{RunFault}
use Rattle.group_core.specs.declared.fault.RunFault.TheVariants as fault

abbrev pub IsFailed : Option RunFault → Type 0
IsFailed why = why ≡ Some fault.Failed

abbrev pub is_failure : RunFault → Bool
is_failure fault.Failed = true
is_failure (fault.Damaged volume at) = false
is_failure (fault.Unlawful place) = false
is_failure fault.NoMemory = false

-- whether the run has ended with a call of the disk that failed in a group restart
abbrev pub ends_failed : Option RunFault → Bool
ends_failed None = false
ends_failed (Some why) = is_failure why

-- a call of the disk has failed in the run, at these places of its journal
abbrev pub HasFailed : List ℕ → Type 0
HasFailed faults = faults ≢ []

-- the place is one more at which a call of the disk has failed, or none has failed there
abbrev pub noted : List ℕ → ℕ → Bool → List ℕ
noted faults place failed = if failed then faults ++ place ∷ [] else faults

-- From one moment of a run to a later one: the disk's count didn't fall, and it rose where a call has failed since.
pub record Goes (before : ℕ) (faults : List ℕ) (why : Option RunFault) (now : ℕ) (faults_now : List ℕ) (why_now : Option RunFault) : Type 0 where
  pub later : before ≤ now
  pub kept : HasFailed faults → HasFailed faults_now
  pub rose : HasFailed faults_now → HasFailed faults ⊎ Rose before now
  pub ended : IsFailed why_now → IsFailed why ⊎ HasFailed faults_now
