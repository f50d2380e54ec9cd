-- Each side of a fork has fewer pages than the fork.
use Rattle.std.specs.Prelude.{◌≤◌, max, length}
use Rattle.std.proofs.Common.{arith, length-append}
use Rattle.page_tree.specs.declared.tree.Node.{Node}
use Rattle.page_tree.specs.declared.tree.Node.TheVariants.{Leaf, Fork}
use Rattle.page_tree.specs.declared.tree.Tree.TheDeep.{deep-Node}
use Rattle.page_tree.specs.Nodes.{pages_in}

pub depth_le-length-pages_in : (n : Node) → max (deep-Node n) 0 ≤ length (pages_in n)
depth_le-length-pages_in Leaf = omega arith
depth_le-length-pages_in (Fork least middle l r) = omega (arith, length-append l.value r.value)
