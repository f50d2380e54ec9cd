use Rattle.std.proofs.Common.{◌≡◌, map, take}
use Rattle.std.specs.List.{flat_map}
use Rattle.lock_sights.specs.Rosters.{trans_in_phase}
use Rattle.lock_sights.proofs.roster.roster_of.Given as goal

abbrev pub invariant-loop-phase : goal.invariant-loop-phase
invariant-loop-phase l = map (λ t. t.now) l.out.items ≡ flat_map trans_in_phase (take l.phase-index l.script.phases)
