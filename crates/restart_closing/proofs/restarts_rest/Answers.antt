use Rattle.restart_closing.proofs.restarts_rest.Goals as goal
use Rattle.restart_closing.proofs.Resting.{hands_over, rests_stay}

pub returns : goal.returns
returns c = record { handed = hands_over c.closings_tell.ensures.handed; event = rests_stay c.both_tell.ensures }
