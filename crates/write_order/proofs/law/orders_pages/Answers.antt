use Rattle.write_order.proofs.Orders.{transitive, total}
use Rattle.write_order.proofs.law.orders_pages.Goals as goal

pub returns-clause-transitive : goal.returns-clause-transitive
returns-clause-transitive c = transitive

pub returns-clause-total : goal.returns-clause-total
returns-clause-total c = total
