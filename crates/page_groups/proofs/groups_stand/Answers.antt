use Rattle.page_groups.proofs.groups_stand.Goals as goal
use Rattle.page_groups.proofs.Steps.{each_is_beside, fails_stand, leads_stand}

pub returns : goal.returns
returns c =
    let law = c.others_stay_up.ensures in
    record { beside = each_is_beside; event = leads_stand law; failure = fails_stand law }
