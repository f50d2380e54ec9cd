use Rattle.restart_closing.proofs.failures_leave.Goals as goal
use Rattle.restart_closing.proofs.Failing.{failures_leave}

pub returns : goal.returns
returns c = failures_leave
