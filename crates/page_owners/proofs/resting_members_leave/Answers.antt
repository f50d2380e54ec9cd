use Rattle.page_owners.proofs.resting_members_leave.Goals as goal
use Rattle.page_owners.proofs.Resting.{rests_leave}

pub returns : goal.returns
returns c = rests_leave c.sends_lawfully.ensures c.commands_leave.ensures
