-- The rest of a chain has fewer claims than the chain.
use Rattle.std.specs.Prelude.{◌≤◌, max, length}
use Rattle.std.proofs.Common.{arith}
use Rattle.lock_manager.specs.declared.chain.Node.{Node}
use Rattle.lock_manager.specs.declared.chain.Node.TheVariants.{End, Link}
use Rattle.lock_manager.specs.declared.chain.Chain.TheDeep.{deep-Node}
use Rattle.lock_manager.specs.Chains.{claims_in}

pub depth_le-length-claims_in : (n : Node) → max (deep-Node n) 0 ≤ length (claims_in n)
depth_le-length-claims_in End = omega arith
depth_le-length-claims_in (Link c rest) = omega arith
