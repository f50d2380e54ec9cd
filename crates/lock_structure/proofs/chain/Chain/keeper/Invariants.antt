use Rattle.std.proofs.Common.{◌≡◌}
use Rattle.std.specs.Prelude.{None, IfSome}
use Rattle.ds_base.specs.Ids.{IsMember}
use Rattle.lock_structure.specs.Buckets.{lowest_in}
use Rattle.lock_structure.proofs.chain.Chain.keeper.Given as goal

abbrev pub invariant-loop-chain : goal.invariant-loop-chain
invariant-loop-chain l = (lowest_in l.member l.name l.mode l.chain l.lowest ≡ lowest_in l.member l.name l.mode l.fn.self None) × IfSome l.lowest IsMember
