use Rattle.page_owners.proofs.pages_in_x.Goals as goal
use Rattle.page_owners.proofs.InX.{begin_in_x, stay_in_x, told_in_x}

pub returns : goal.returns
returns c =
    let own = c.own_claims_stay.ensures in
    record { begin = begin_in_x; event = stay_in_x c.claims_stay.ensures own c.sends_lawfully.ensures; told = told_in_x own }
