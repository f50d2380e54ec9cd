use Rattle.page_events.proofs.commands_leave.Goals as goal
use Rattle.page_events.proofs.Quiet.{quiet_commands}

pub returns : goal.returns
returns c = quiet_commands
