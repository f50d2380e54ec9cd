use Rattle.put_records.proofs.buffers_stay.Goals as goal
use Rattle.put_records.proofs.Allowed.{allowed_begin, allowed_reach, allowed_stay}

pub returns : goal.returns
returns c = record { begin = allowed_begin; event = allowed_stay; local = allowed_reach }
