use Rattle.index_protocol.proofs.guards_are_met.Goals as goal
use Rattle.index_protocol.proofs.Order.{failure, may_enter, may_give, order}

pub returns : goal.returns
returns c = record { gives = may_give; enters = may_enter; order = order; failure = failure }
