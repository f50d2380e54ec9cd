use Rattle.page_world.proofs.refusals_stay.Goals as goal
use Rattle.page_world.proofs.Refusing.{reads_nothing, writes_nothing}

pub returns : goal.returns
returns c = record { read = reads_nothing; write = writes_nothing }
