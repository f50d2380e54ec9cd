use Rattle.std.proofs.Common.{◌≡◌, ◌++◌, map, take}
use Rattle.std.specs.List.{flat_map}
use Rattle.lock_sights.specs.Rosters.{trans_in_part}
use Rattle.lock_sights.proofs.roster.put_phase.Given as goal

abbrev pub invariant-loop-part : goal.invariant-loop-part
invariant-loop-part l = map (λ t. t.now) l.out.items ≡ map (λ t. t.now) l.fn.out.items ++ flat_map trans_in_part (take l.part-index l.phase.parts)
