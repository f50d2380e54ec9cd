use Rattle.row_protocol.proofs.legal_history.Goals as goal
use Rattle.row_protocol.proofs.Runs.{always}

pub returns : goal.returns
returns c = always
