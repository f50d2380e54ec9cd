use Rattle.lock_events.proofs.commands_stay.Goals as goal
use Rattle.lock_events.proofs.Quiet.{quiet_command}
use Rattle.lock_events.proofs.Stands.{goes_to}

pub returns : goal.returns
returns c = record { command = quiet_command; goes = goes_to c.groups_begin.ensures.stays }
