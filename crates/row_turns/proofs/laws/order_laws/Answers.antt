use Rattle.row_turns.proofs.Ordering.{orders_hold}
use Rattle.row_turns.proofs.laws.order_laws.Goals as goal

pub returns : goal.returns
returns c = orders_hold c.row_laws.ensures.follow
