use Rattle.std.proofs.Common.{◌≡◌, ◌==◌, drop}
use Rattle.std.specs.List.{find}
use Rattle.ds_model.specs.declared.script.Part.{Part}
use Rattle.script_phases.specs.Phases.{part_in}
use Rattle.script_phases.proofs.phase.part_in.Given as goal

abbrev pub invariant-loop-part : goal.invariant-loop-part
invariant-loop-part l = find (λ (p : Part). p.member == l.member) (drop l.part-index l.phase.parts) ≡ part_in l.phase l.member
