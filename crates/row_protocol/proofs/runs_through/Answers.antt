use Rattle.row_protocol.proofs.Example.{runs_through}
use Rattle.row_protocol.proofs.runs_through.Goals as goal

pub returns : goal.returns
returns c = runs_through
