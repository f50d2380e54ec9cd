use Rattle.page_world.proofs.groups_begin.Goals as goal
use Rattle.page_world.proofs.Grounding.{rises, starts}

pub returns : goal.returns
returns c = record { rises = rises; starts = starts }
