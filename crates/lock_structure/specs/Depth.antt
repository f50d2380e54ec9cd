-- The rest of a chain has fewer records than the chain.
use Rattle.std.specs.Prelude.{◌≤◌, max, length}
use Rattle.std.proofs.Common.{arith}
use Rattle.lock_structure.specs.declared.chain.Node.{Node}
use Rattle.lock_structure.specs.declared.chain.Node.TheVariants.{End, Link}
use Rattle.lock_structure.specs.declared.chain.Chain.TheDeep.{deep-Node}
use Rattle.lock_structure.specs.Chains.{held_in}

pub depth_le-length-held_in : (n : Node) → max (deep-Node n) 0 ≤ length (held_in n)
depth_le-length-held_in End = omega arith
depth_le-length-held_in (Link h rest) = omega arith
