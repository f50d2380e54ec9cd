use Rattle.lock_structure.specs.Records.{retained_by}
use Rattle.std.proofs.Common.{◌≡◌, ◌++◌, map, take, drop}
use Rattle.lock_structure.proofs.buckets.retain_all.Given as goal

abbrev pub invariant-loop-chain : goal.invariant-loop-chain
invariant-loop-chain l = l.chain-items ≡ map (map (retained_by l.member)) (take l.chain-index l.fn.chains.items) ++ drop l.chain-index l.fn.chains.items
