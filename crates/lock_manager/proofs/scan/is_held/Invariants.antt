use Rattle.std.proofs.Common.{◌≡◌, drop, set}
use Rattle.lock_manager.specs.Holders.{is_held}
use Rattle.lock_manager.proofs.scan.is_held.Given as goal

abbrev pub invariant-loop-at : goal.invariant-loop-at
invariant-loop-at l = is_held (drop l.at (set l.holders l.owner l.left)) l.name ≡ is_held (set l.holders l.owner l.left) l.name
