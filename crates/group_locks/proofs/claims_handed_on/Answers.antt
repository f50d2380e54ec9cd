use Rattle.group_locks.proofs.claims_handed_on.Goals as goal
use Rattle.group_locks.proofs.Handing.{hands_on}

pub returns : goal.returns
returns c = hands_on c.keeps_sound.ensures.run
