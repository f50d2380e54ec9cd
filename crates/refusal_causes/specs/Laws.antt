-- The causes of all refusals of a run.
use Rattle.std.specs.Prelude.{◌≡◌, ℕ, Bool, true, false, List, Option, Some, None}
use Rattle.ds_disk.specs.Contents.{Contents}
use Rattle.cache_structure.specs.Directory.{Directory}
use Rattle.group_core.specs.declared.fault.RunFault.{RunFault}
use Rattle.group_core.specs.declared.fault.RunFault.TheVariants as fault
use Rattle.group_core.specs.declared.group.Group.{Group}
use Rattle.group_core.specs.Starts.{IsFresh}
use Rattle.group_core.specs.Fresh.{RunsFresh}
use Rattle.refusal_causes.specs.Moments.{AllCaused, HeldInRun}

-- whether the run hasn't ended since what was wanted may not be done
abbrev pub is_lawful : Option RunFault → Bool
is_lawful None = true
is_lawful (Some fault.Failed) = true
is_lawful (Some (fault.Damaged volume at)) = true
is_lawful (Some (fault.Unlawful place)) = false
is_lawful (Some fault.NoMemory) = true

-- wherever the events of a journal lead a group that has just started, the cause of each refusal held at one of them, whose place is told
abbrev pub CausesHeld : {C D : Type 0} → (P : Type 0) → (C → Directory) → (D → Bool) → (D → Option Contents) → (D → ℕ) → Type 0
CausesHeld {C} {D} P directory alive contents count =
    (start : Group D C P) (journal : List ℕ) (last : Group D C P) → IsFresh directory start → RunsFresh directory alive contents count start journal last → is_lawful last.fault ≡ true
    → AllCaused (HeldInRun directory alive contents count start journal last) last.crew.fates
