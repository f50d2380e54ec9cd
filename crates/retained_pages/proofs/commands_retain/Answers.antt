use Rattle.retained_pages.proofs.commands_retain.Goals as goal
use Rattle.retained_pages.proofs.Commands.{commands_retain, commands_spare, failures_retain, failures_spare}

pub returns : goal.returns
returns c = record { command = commands_retain; spare = commands_spare; failure = failures_retain; failed = failures_spare }
