use Rattle.put_records.proofs.resting_puts_none.Goals as goal
use Rattle.put_records.proofs.Resting.{locals_leave, nothing_put, nothing_waits}

pub returns : goal.returns
returns c = record { event = nothing_put c.sends_lawfully.ensures; waits = nothing_waits c.sends_lawfully.ensures; local = locals_leave }
