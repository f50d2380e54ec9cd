use Rattle.put_records.proofs.events_put.Goals as goal
use Rattle.put_records.proofs.Events.{events_put}

pub returns : goal.returns
returns c = events_put
