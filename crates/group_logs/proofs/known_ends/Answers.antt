use Rattle.group_logs.proofs.known_ends.Goals as goal
use Rattle.group_logs.proofs.Known.{anew_know, begins_know, members_know, phases_know}

pub returns : goal.returns
returns c = record { anew = anew_know; begins = begins_know; phases = phases_know; members = members_know }
