use Rattle.page_owners.proofs.members_fail.Goals as goal
use Rattle.page_owners.proofs.Steps.{members_fail}

pub returns : goal.returns
returns c = members_fail c.keeps_sound.ensures.run c.failures_are_moves.ensures.fails c.failures_go.ensures c.groups_stand.ensures.failure
