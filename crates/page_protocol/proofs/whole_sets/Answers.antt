use Rattle.page_protocol.proofs.whole_sets.Goals as goal
use Rattle.page_protocol.proofs.Sets.{always_agree}

pub returns : goal.returns
returns c = always_agree
