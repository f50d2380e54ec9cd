use Rattle.std.proofs.Common.{◌≡◌, map}
use Rattle.group_crew.specs.Crews.{unlooked}
use Rattle.group_crew.proofs.crew.find_in_all.Given as goal

abbrev pub invariant-loop-part : goal.invariant-loop-part
invariant-loop-part g l = map unlooked l.part-items ≡ map unlooked l.fn.parts
