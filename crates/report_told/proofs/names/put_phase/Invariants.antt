use Rattle.std.proofs.Common.{◌≡◌, ◌++◌, map, take}
use Rattle.std.specs.List.{flat_map}
use Rattle.report_told.specs.Names.{names_in_part}
use Rattle.report_told.proofs.names.put_phase.Given as goal

abbrev pub invariant-loop-part : goal.invariant-loop-part
invariant-loop-part l = map (λ n. n.now) l.names.items ≡ map (λ n. n.now) l.fn.names.items ++ flat_map names_in_part (take l.part-index l.phase.parts)
