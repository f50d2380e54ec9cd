use Rattle.std.proofs.Common.{◌≡◌, ◌≤◌, length, ap, subst, sym, ◌∙◌, arith}
use Rattle.page_index.specs.Places.{Index, IsIndexOf}
use Rattle.page_index.proofs.Leading.{index_put}
use Rattle.page_index.proofs.index.PageIndex.enter.Goals as goal

pub make_room-requires-clause-leads : goal.make_room-requires-clause-leads
make_room-requires-clause-leads g c = (subst (IsIndexOf g.T.HoldsPage.page c.args.places.now) (sym c.self.view_is) c.requires.index).leads

pub make_room-requires-clause-fits : goal.make_room-requires-clause-fits
make_room-requires-clause-fits g c = (subst (IsIndexOf g.T.HoldsPage.page c.args.places.now) (sym c.self.view_is) c.requires.index).room

pub returns-clause-index : goal.returns-clause-index
returns-clause-index g c =
    let room = (subst (IsIndexOf g.T.HoldsPage.page c.args.places.now) (sym c.self.view_is) c.requires.index).room in
    index_put g.T.HoldsPage.page c.args.places.now c.make_room.new.names c.put.new.names c.self.inside.size c.args.at c.args.id c.put.ensures.updates c.requires.there room c.make_room.ensures.leads c.requires.alone
