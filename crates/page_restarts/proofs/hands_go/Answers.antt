use Rattle.page_restarts.proofs.hands_go.Goals as goal
use Rattle.page_restarts.proofs.Hands.{puts_aside, puts_down, takes_up}

pub returns : goal.returns
returns c =
    let frames = c.frames_are_moves.ensures in
    record { up = takes_up frames.places; down = puts_down frames.leaves; aside = puts_aside frames.aside }
