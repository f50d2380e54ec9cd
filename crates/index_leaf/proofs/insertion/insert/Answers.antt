use Rattle.std.proofs.Common.{arith}
use Rattle.index_leaf.proofs.Enlarged.{enters_if}
use Rattle.index_leaf.proofs.insertion.insert.Goals as goal

pub returns-clause-entries : goal.returns-clause-entries
returns-clause-entries c =
    enters_if c.args.page.now (record { key = c.args.key; place = c.args.place }) c.plan_insertion.result c.plan_insertion.ensures.whole c.requires.room (omega arith) (omega arith) (omega arith) c.plan_insertion.ensures.value
