use Rattle.log_numbers.proofs.names_are_apart.Goals as goal
use Rattle.log_numbers.proofs.Apart.{names_apart, rollbacks_named}

pub returns : goal.returns
returns c = record { apart = names_apart; rollback = rollbacks_named }
