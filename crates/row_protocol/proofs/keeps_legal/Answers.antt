use Rattle.row_protocol.proofs.keeps_legal.Goals as goal
use Rattle.row_protocol.proofs.Kept.{kept_start}
use Rattle.row_protocol.proofs.Runs.{kept_step}

pub returns : goal.returns
returns c = record { start = kept_start; step = kept_step }
