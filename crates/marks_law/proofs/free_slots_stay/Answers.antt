use Rattle.marks_law.proofs.free_slots_stay.Goals as goal
use Rattle.marks_law.proofs.Begins.{free_begin}
use Rattle.marks_law.proofs.Locals.{free_adopt, free_reach}
use Rattle.marks_law.proofs.Runs.{free_stay}

pub returns : goal.returns
returns c = record { begin = free_begin; event = free_stay free_reach; local = free_reach; adopted = free_adopt }
