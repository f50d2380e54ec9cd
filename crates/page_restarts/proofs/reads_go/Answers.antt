use Rattle.page_restarts.proofs.reads_go.Goals as goal
use Rattle.page_restarts.proofs.Hands.{fill_goes, read_goes}

pub returns : goal.returns
returns c =
    let reads = c.reads_are_moves.ensures in
    record { read = read_goes reads.found reads.empty c.refusals_stay.ensures.read; fill = fill_goes c.frames_are_moves.ensures.fills }
