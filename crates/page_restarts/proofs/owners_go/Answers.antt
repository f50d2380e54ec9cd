use Rattle.page_restarts.proofs.owners_go.Goals as goal
use Rattle.page_restarts.proofs.Owning.{append_goes, give_up_goes, lock_goes, one_page, stay_goes}

pub returns : goal.returns
returns c =
    let owners = c.owners_are_moves.ensures in
    record { lock = lock_goes owners.locks; give_up = give_up_goes (one_page c.pages_have_numbers.ensures) owners.purges; append = append_goes owners.forces; stay = stay_goes c.losses_are_moves.ensures.stays }
