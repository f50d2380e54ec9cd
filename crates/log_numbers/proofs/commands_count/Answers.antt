use Rattle.log_numbers.proofs.commands_count.Goals as goal
use Rattle.log_numbers.proofs.Commands.{commands_count}

pub returns : goal.returns
returns c = commands_count
