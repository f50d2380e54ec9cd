use Rattle.page_groups.proofs.members_go.Goals as goal
use Rattle.page_groups.proofs.Steps.{members_go, told_go}

pub returns : goal.returns
returns c =
    let law = c.others_stay_up.ensures in
    record { event = members_go law c.events_go.ensures.event; told = told_go law c.events_go.ensures.told }
