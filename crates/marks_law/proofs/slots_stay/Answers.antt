use Rattle.marks_law.proofs.slots_stay.Goals as goal
use Rattle.marks_law.proofs.Begins.{slots_begin, slots_tell}
use Rattle.marks_law.proofs.Locals.{slots_adopt, slots_reach}
use Rattle.marks_law.proofs.Runs.{slots_stay}

pub returns : goal.returns
returns c = record { tell = slots_tell; begin = slots_begin; event = slots_stay slots_reach; local = slots_reach; adopted = slots_adopt }
