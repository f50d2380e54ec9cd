use Rattle.std.proofs.Common.{◌≡◌, drop}
use Rattle.lock_manager.specs.Managers.{place_in}
use Rattle.lock_manager.proofs.manager.place_of.Given as goal

abbrev pub invariant-loop-at : goal.invariant-loop-at
invariant-loop-at l = place_in (drop l.at l.rollbacks) l.at l.id ≡ place_in l.rollbacks 0 l.id
