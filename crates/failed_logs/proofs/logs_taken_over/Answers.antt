use Rattle.failed_logs.proofs.logs_taken_over.Goals as goal
use Rattle.failed_logs.proofs.Taken.{idle_takes_over, taken_over}

pub returns : goal.returns
returns c = record { taken = taken_over c.rows_taken_over.ensures c.appends_tell.ensures.all; idle = idle_takes_over c.rows_taken_over.ensures c.appends_tell.ensures.all }
