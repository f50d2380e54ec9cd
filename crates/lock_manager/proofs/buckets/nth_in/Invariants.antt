use Rattle.std.proofs.Common.{◌≡◌, drop}
use Rattle.lock_manager.specs.Buckets.{all_in}
use Rattle.lock_manager.proofs.buckets.nth_in.Given as goal

abbrev pub invariant-loop-chain : goal.invariant-loop-chain
invariant-loop-chain l = drop l.place (all_in l.chains) ≡ drop l.left (all_in (drop l.chain-index l.chains))
