use Rattle.restart_owners.proofs.ends_go.Goals as goal
use Rattle.restart_owners.proofs.Ending.{ends_free, ends_go}

pub returns : goal.returns
returns c = record { free = ends_free; over = ends_go c.ends_go.ensures }
