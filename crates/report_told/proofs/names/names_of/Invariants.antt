use Rattle.std.proofs.Common.{◌≡◌, map, take}
use Rattle.std.specs.List.{flat_map}
use Rattle.report_told.specs.Names.{names_in_phase}
use Rattle.report_told.proofs.names.names_of.Given as goal

abbrev pub invariant-loop-phase : goal.invariant-loop-phase
invariant-loop-phase l = map (λ n. n.now) l.names.items ≡ flat_map names_in_phase (take l.phase-index l.script.phases)
