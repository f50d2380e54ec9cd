use Rattle.index_protocol.proofs.whole_index.Goals as goal
use Rattle.index_protocol.proofs.Runs.{kept_start, kept_step, always}

pub returns : goal.returns
returns c = record { start = kept_start; step = kept_step; always = always }
