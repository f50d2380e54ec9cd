use Rattle.page_restarts.proofs.forwards_go.Goals as goal
use Rattle.page_restarts.proofs.Hands.{forward_goes, test_goes}

pub returns : goal.returns
returns c = record { test = test_goes; forward = forward_goes c.frames_are_moves.ensures.redoes }
