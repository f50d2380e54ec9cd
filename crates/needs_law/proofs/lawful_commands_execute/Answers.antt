use Rattle.needs_law.proofs.Executing.{executes}
use Rattle.needs_law.proofs.lawful_commands_execute.Goals as goal

pub returns : goal.returns
returns c = executes
