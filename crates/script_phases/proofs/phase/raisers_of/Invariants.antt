use Rattle.std.proofs.Common.{take}
use Rattle.std.specs.List.{flat_map}
use Rattle.script_phases.specs.Phases.{Noted, raises_counted}
use Rattle.script_phases.proofs.phase.raisers_of.Given as goal

abbrev pub invariant-loop-part : goal.invariant-loop-part
invariant-loop-part l = Noted (flat_map (raises_counted l.phase l.lists.statuses) (take l.part-index l.phase.parts)) l.initial.raisers l.raisers
