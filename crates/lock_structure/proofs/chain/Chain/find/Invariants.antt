use Rattle.std.proofs.Common.{◌≡◌}
use Rattle.lock_structure.specs.Records.{record_in}
use Rattle.lock_structure.proofs.chain.Chain.find.Given as goal

abbrev pub invariant-loop-chain : goal.invariant-loop-chain
invariant-loop-chain l = record_in l.chain l.member l.name ≡ record_in l.fn.self l.member l.name
