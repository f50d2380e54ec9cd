use Rattle.page_policies.proofs.policies_go.Goals as goal
use Rattle.page_policies.proofs.Staying.{local_goes, reach_log, reaches_goes}

pub returns : goal.returns
returns c =
    let moves = c.locals_stay.ensures in
    let one = local_goes moves.place moves.pin moves.unpin c.others_stay.ensures in
    record { local = one; reaches = reaches_goes c.others_stay.ensures one c.coherent_pages.ensures.run; log = reach_log }
