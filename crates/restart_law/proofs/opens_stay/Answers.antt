use Rattle.restart_law.proofs.opens_stay.Goals as goal
use Rattle.restart_law.proofs.Events.{opens_stay}
use Rattle.restart_law.proofs.Opens.{begins, hands}

pub returns : goal.returns
returns c = record { begin = begins; event = opens_stay c.open_trans_tell.ensures; handed = hands }
