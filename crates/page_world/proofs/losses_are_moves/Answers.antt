use Rattle.page_world.proofs.losses_are_moves.Goals as goal
use Rattle.page_world.proofs.Losing.{stays, loses, reads_log, rebuilds, rebuilt}

pub returns : goal.returns
returns c = record { stays = stays; loses = loses; reads_log = reads_log; rebuilds = rebuilds; rebuilt = rebuilt }
