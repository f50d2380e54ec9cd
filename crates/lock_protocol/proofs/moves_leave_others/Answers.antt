use Rattle.lock_protocol.proofs.moves_leave_others.Goals as goal
use Rattle.lock_protocol.proofs.Own.{both_are_of, others_keep}

pub returns : goal.returns
returns c = record { others = others_keep; both = both_are_of }
