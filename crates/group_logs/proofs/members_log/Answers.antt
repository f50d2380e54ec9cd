use Rattle.group_logs.proofs.members_log.Goals as goal
use Rattle.group_logs.proofs.Others.{makes, members_go}

pub returns : goal.returns
returns c = record { made = makes; comes = members_go }
