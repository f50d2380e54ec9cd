use Rattle.restart_law.proofs.needs_are_few.Goals as goal
use Rattle.restart_law.proofs.Few.{needs_counted, short_logs_need_few}

pub returns : goal.returns
returns c = record { counted = needs_counted; short = short_logs_need_few }
