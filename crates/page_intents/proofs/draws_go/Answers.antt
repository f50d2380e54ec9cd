use Rattle.page_intents.proofs.draws_go.Goals as goal
use Rattle.page_intents.proofs.Patching.{change_goes}
use Rattle.page_intents.proofs.Undoing.{undo_goes, commit_goes}

pub returns : goal.returns
returns c =
    let laws = c.draws_are_moves.ensures in
    record { change = change_goes laws.draws; undo = undo_goes laws.undoes; commit = commit_goes laws.draws }
