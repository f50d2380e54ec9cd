use Rattle.index_links.proofs.Told.{linked_opens}
use Rattle.index_links.proofs.laws.linked_laws.Goals as goal

pub returns : goal.returns
returns c = linked_opens c.chain_laws.ensures.others (c.header_laws.ensures.zeros.2 4)
