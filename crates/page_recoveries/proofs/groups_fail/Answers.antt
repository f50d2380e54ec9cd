use Rattle.page_recoveries.proofs.groups_fail.Goals as goal
use Rattle.page_recoveries.proofs.Groups.{group_fails}

pub returns : goal.returns
returns c = group_fails c.groups_fall.ensures.falls
