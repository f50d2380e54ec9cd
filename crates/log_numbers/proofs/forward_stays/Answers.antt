use Rattle.log_numbers.proofs.Events.{forward_stay}
use Rattle.log_numbers.proofs.Locals.{forward_reach}
use Rattle.log_numbers.proofs.Naming.{records_are_named}
use Rattle.log_numbers.proofs.forward_stays.Goals as goal

pub returns-clause-event : goal.returns-clause-event
returns-clause-event c = forward_stay c.sends_lawfully.ensures

pub returns-clause-local : goal.returns-clause-local
returns-clause-local c = forward_reach

pub returns-clause-records : goal.returns-clause-records
returns-clause-records c = records_are_named c.sends_lawfully.ensures
