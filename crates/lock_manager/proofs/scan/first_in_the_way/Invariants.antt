use Rattle.std.proofs.Common.{◌≡◌, drop}
use Rattle.lock_manager.specs.Holders.{first_in_way}
use Rattle.lock_manager.proofs.scan.first_in_the_way.Given as goal

abbrev pub invariant-loop-at : goal.invariant-loop-at
invariant-loop-at l = first_in_way (drop l.at l.holders) l.at l.asker l.name l.mode ≡ first_in_way l.holders 0 l.asker l.name l.mode
