use Rattle.page_owners.proofs.resting_members_are_bare.Goals as goal
use Rattle.page_owners.proofs.Bare.{down_is_bare, rests_bare}

pub returns : goal.returns
returns c = record { begin = down_is_bare; event = rests_bare }
