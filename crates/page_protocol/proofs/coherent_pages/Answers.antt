use Rattle.page_protocol.proofs.coherent_pages.Goals as goal
use Rattle.page_protocol.proofs.Runs.{starts, kept_step, always}
use Rattle.page_protocol.proofs.Opening.{opens}

pub returns : goal.returns
returns c = record { start = starts; opening = opens; step = kept_step; run = always }
