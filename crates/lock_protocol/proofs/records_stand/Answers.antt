use Rattle.lock_protocol.proofs.records_stand.Goals as goal
use Rattle.lock_protocol.proofs.Words.{record_stands}

pub returns : goal.returns
returns c = record_stands
