use Rattle.lock_protocol.proofs.keeps_sound.Goals as goal
use Rattle.lock_protocol.proofs.Kept.{kept_start}
use Rattle.lock_protocol.proofs.Runs.{kept_step, kept_run}

pub returns : goal.returns
returns c = record { start = kept_start; step = kept_step; run = kept_run }
