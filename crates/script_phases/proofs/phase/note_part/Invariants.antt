use Rattle.std.proofs.Common.{take}
use Rattle.std.specs.List.{flat_map}
use Rattle.script_phases.specs.Phases.{Noted, raises_of_tran}
use Rattle.script_phases.proofs.phase.note_part.Given as goal

abbrev pub invariant-loop-tran : goal.invariant-loop-tran
invariant-loop-tran l = Noted (flat_map (raises_of_tran l.part.member) (take l.tran-index l.part.trans)) l.fn.raisers l.raisers
