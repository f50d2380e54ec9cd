use Rattle.lock_protocol.proofs.claims_give.Goals as goal
use Rattle.lock_protocol.proofs.Words.{gives, join_is_one}

pub returns : goal.returns
returns c = record { gives = gives; join = join_is_one }
