use Rattle.log_numbers.proofs.numbers_stay.Goals as goal
use Rattle.log_numbers.proofs.Events.{counted_stay}
use Rattle.log_numbers.proofs.Locals.{counted_adopt, counted_begin, counted_reach}
use Rattle.log_numbers.proofs.Stays.{counted_more}

pub returns : goal.returns
returns c = record { begin = counted_begin; event = counted_stay c.sends_lawfully.ensures; local = counted_reach; more = counted_more; adopted = counted_adopt }
