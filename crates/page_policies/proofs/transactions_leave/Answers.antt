use Rattle.page_policies.proofs.transactions_leave.Goals as goal
use Rattle.page_policies.proofs.Staying.{trans_leave}

pub returns : goal.returns
returns c = trans_leave
