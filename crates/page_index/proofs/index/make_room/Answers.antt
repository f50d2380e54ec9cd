use Rattle.page_index.proofs.Leading.{apart_so}
use Rattle.page_index.proofs.index.make_room.Goals as goal

pub enter_all-requires-clause-apart : goal.enter_all-requires-clause-apart
enter_all-requires-clause-apart g c = apart_so g.T.HoldsPage.page c.args.places.now c.args.names.now.entries c.requires.leads
