use Rattle.std.proofs.Common.{◌≡◌, map}
use Rattle.lock_sights.specs.Rosters.{named_within}
use Rattle.lock_sights.proofs.roster.number_named.Given as goal

abbrev pub invariant-loop-at : goal.invariant-loop-at
invariant-loop-at l = l.number ≡ named_within (map (λ t. t.now) l.all) l.name l.at
