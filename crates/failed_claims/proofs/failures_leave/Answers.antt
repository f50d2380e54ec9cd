use Rattle.failed_claims.proofs.failures_leave.Goals as goal
use Rattle.failed_claims.proofs.Leaving.{failure_leaves, rows_outlive}

pub returns : goal.returns
returns c = record { leaves = failure_leaves; rows = rows_outlive }
