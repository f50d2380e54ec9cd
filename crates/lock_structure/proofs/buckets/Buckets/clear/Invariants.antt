use Rattle.std.proofs.Common.{◌≡◌, ◌++◌, replicate, drop, []}
use Rattle.lock_structure.proofs.buckets.Buckets.clear.Given as goal

abbrev pub invariant-loop-at : goal.invariant-loop-at
invariant-loop-at l = l.self ≡ record l.fn.self { chains = replicate l.at [] ++ drop l.at l.fn.self.chains }
