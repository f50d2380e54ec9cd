use Rattle.std.proofs.Common.{◌≡◌, ◌++◌, map, take, drop}
use Rattle.group_crew.specs.Crews.{stale}
use Rattle.group_crew.proofs.crew.make_stale.Given as goal

abbrev pub invariant-loop-part : goal.invariant-loop-part
invariant-loop-part g l = l.part-items ≡ map stale (take l.part-index l.fn.parts) ++ drop l.part-index l.fn.parts
