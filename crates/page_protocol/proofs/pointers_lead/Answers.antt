use Rattle.page_protocol.proofs.pointers_lead.Goals as goal
use Rattle.page_protocol.proofs.LinkRuns.{always_linked, links_lead}

pub returns : goal.returns
returns c = record { run = always_linked; lead = links_lead }
