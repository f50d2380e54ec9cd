use Rattle.std.proofs.Common.{arith}
use Rattle.index_leaf.proofs.Parts.{left_if, right_if}
use Rattle.index_leaf.proofs.halves.split.Goals as goal

pub returns-clause-left_page : goal.returns-clause-left_page
returns-clause-left_page c =
    left_if c.args.left.now c.args.right_number c.plan_split.result c.plan_split.ensures.whole c.requires (omega arith) (omega arith) c.plan_split.ensures.left c.plan_split.ensures.low

pub returns-clause-right_page : goal.returns-clause-right_page
returns-clause-right_page c =
    right_if c.args.left.now c.args.right_number c.plan_split.result c.plan_split.ensures.whole c.requires (omega arith) c.plan_split.ensures.right c.plan_split.ensures.low
