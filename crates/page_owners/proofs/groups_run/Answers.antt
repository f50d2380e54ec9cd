use Rattle.page_owners.proofs.groups_run.Goals as goal
use Rattle.page_owners.proofs.Runs.{Facts, runs_stand}

pub returns : goal.returns
returns c =
    let facts : Facts = record { start = c.groups_start.ensures.start; event = c.members_go.ensures.event; told = c.members_go.ensures.told; fail = c.members_fail.ensures } in
    runs_stand facts
