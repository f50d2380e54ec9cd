use Rattle.std.proofs.Common.{◌≡◌, take, []}
use Rattle.lock_manager.specs.Buckets.{all_in}
use Rattle.lock_manager.proofs.buckets.first_in_use.Given as goal

abbrev pub invariant-loop-at : goal.invariant-loop-at
invariant-loop-at l = all_in (take l.at l.chains) ≡ []
