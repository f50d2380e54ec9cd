-- What a script has next, by how far it is played.
use Rattle.std.specs.Prelude.{ℕ, ◌&&◌, Bool, true, false, not, nat_lt, length, Option, Some, None, slice_get, if◌then◌else◌}
use Rattle.ds_model.specs.declared.script.Phase.{Phase}
use Rattle.ds_model.specs.declared.script.Script.{Script}
use Rattle.script_phases.specs.declared.progress.Progress.{Progress}

abbrev pub groupfails_at : ℕ → Option Phase → ℕ
groupfails_at last None = last
groupfails_at last (Some phase) = phase.groupfails

-- how often the group is to fail before the next phase, or behind the last one
abbrev pub groupfails_wanted : Script → ℕ → ℕ
groupfails_wanted script begun = groupfails_at script.groupfails (slice_get script.phases begun)

-- the group is to fail once more, before anything else begins
abbrev pub has_groupfail : Progress → Script → Bool
has_groupfail p script = nat_lt p.groupfails (groupfails_wanted script p.begun)

abbrev pub has_phase : Progress → Script → Bool
has_phase p script = nat_lt p.begun (length script.phases)

-- all phases have begun, all members are done, and the group has failed as often as it is to
abbrev pub is_played : Progress → Script → Bool
is_played p script = p.is_idle && (not (has_groupfail p script) && not (has_phase p script))

-- once all members are done: the group fails (1) as often as it is to, and then the next phase begins (0)
abbrev pub choice_next : Progress → Script → Option ℕ
choice_next p script = if p.is_idle then (if has_groupfail p script then Some 1 else (if has_phase p script then Some 0 else None)) else None

-- while a group restart is in hand, its next call (2) and nothing else
abbrev pub own_choice : Bool → Progress → Script → Option ℕ
own_choice true p script = Some 2
own_choice false p script = choice_next p script

-- the script is played, and no group restart is in hand
abbrev pub is_at_end : Bool → Progress → Script → Bool
is_at_end restarting p script = not restarting && is_played p script
