use Rattle.page_world.proofs.castouts_are_moves.Goals as goal
use Rattle.page_world.proofs.Casting.{begins, casts, ends}

pub returns : goal.returns
returns c = record { begins = begins; casts = casts; ends = ends }
