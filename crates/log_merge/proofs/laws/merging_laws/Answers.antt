use Rattle.log_merge.specs.Merging.{kept}
use Rattle.log_merge.proofs.Order.{rises_by}
use Rattle.log_merge.proofs.Orders.{same_records, keeps_orders}
use Rattle.log_merge.proofs.laws.merging_laws.Goals as goal

pub returns-clause-rises : goal.returns-clause-rises
returns-clause-rises c records = rises_by (kept records)

pub returns-clause-same : goal.returns-clause-same
returns-clause-same c records = same_records (kept records)

pub returns-clause-orders : goal.returns-clause-orders
returns-clause-orders c logs h = keeps_orders logs h
