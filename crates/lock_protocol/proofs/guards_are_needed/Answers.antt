use Rattle.lock_protocol.proofs.Needed.{stamp, retained, kept_interest, no_claim}
use Rattle.lock_protocol.proofs.guards_are_needed.Goals as goal

pub returns : goal.returns
returns c = record { stamp = stamp; retained = retained; kept_interest = kept_interest; no_claim = no_claim }
