use Rattle.std.proofs.Common.{take}
use Rattle.std.specs.List.{flat_map}
use Rattle.script_phases.specs.Phases.{Noted, raise_in}
use Rattle.script_phases.proofs.phase.note_tran.Given as goal

abbrev pub invariant-loop-op : goal.invariant-loop-op
invariant-loop-op l = Noted (flat_map (raise_in (record { member = l.member; number = l.tran.number })) (take l.op-index l.tran.ops)) l.fn.raisers l.raisers
