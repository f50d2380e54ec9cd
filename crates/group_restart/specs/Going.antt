-- An answer of the disk never says that it failed.
use Rattle.std.specs.Prelude.{Result, Ok, Err}
use Rattle.ds_base.specs.declared.fault.NoMemory.{NoMemory}
use Rattle.group_restart.specs.declared.calls.State.{State}
use Rattle.group_restart.specs.declared.calls.State.TheVariants as state

abbrev pub GoesOn : State → Type 0
GoesOn state.Going = Unit {0}
GoesOn (state.Done counter) = Unit {0}
GoesOn (state.Damaged volume at) = Unit {0}
GoesOn state.Failed = ⊥

abbrev pub IsGoingOn : Result State NoMemory → Type 0
IsGoingOn (Ok s) = GoesOn s
IsGoingOn (Err e) = Unit {0}
