use Rattle.page_groups.proofs.members_fail.Goals as goal
use Rattle.page_groups.proofs.Steps.{members_fail}

pub returns : goal.returns
returns c = members_fail c.others_stay_up.ensures c.failures_go.ensures
