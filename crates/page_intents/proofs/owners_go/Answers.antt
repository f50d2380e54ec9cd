use Rattle.page_intents.proofs.owners_go.Goals as goal
use Rattle.page_intents.proofs.Owning.{obtain_goes, grant_goes, release_goes}

pub returns : goal.returns
returns c =
    let numbers = c.pages_have_numbers.ensures in
    let laws = c.owners_are_moves.ensures in
    let stays = c.losses_are_moves.ensures.stays in
    record { obtain = obtain_goes numbers laws.locks stays; grant = grant_goes numbers laws.locks stays; release = release_goes numbers laws.unlocks }
