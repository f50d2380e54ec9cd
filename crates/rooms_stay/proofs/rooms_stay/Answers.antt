use Rattle.rooms_stay.proofs.rooms_stay.Goals as goal
use Rattle.rooms_stay.proofs.Commands.{commands_keep}
use Rattle.rooms_stay.proofs.Events.{events_keep, rooms_begin}
use Rattle.rooms_stay.proofs.Locals.{adoptions_keep, locals_keep}

pub returns : goal.returns
returns c = record { begin = rooms_begin; event = events_keep; local = locals_keep; adopted = adoptions_keep; commands = commands_keep }
