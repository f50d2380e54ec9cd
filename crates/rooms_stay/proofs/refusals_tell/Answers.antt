use Rattle.rooms_stay.proofs.refusals_tell.Goals as goal
use Rattle.rooms_stay.proofs.Left.{refusals_tell}

pub returns : goal.returns
returns c = refusals_tell (record { lawful = c.sends_lawfully.ensures; execute = c.lawful_commands_execute.ensures })
