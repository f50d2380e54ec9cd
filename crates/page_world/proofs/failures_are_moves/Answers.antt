use Rattle.page_world.proofs.failures_are_moves.Goals as goal
use Rattle.page_world.proofs.Falling.{fails, restarts, opens}

pub returns : goal.returns
returns c = record { fails = fails c.logs_have_prefixes.ensures.failure; restarts = restarts; opens = opens }
