use Rattle.lock_restarts.proofs.sends_lawfully.Goals as goal
use Rattle.lock_restarts.proofs.Sent.{sends_lawfully}

pub returns : goal.returns
returns c = sends_lawfully
