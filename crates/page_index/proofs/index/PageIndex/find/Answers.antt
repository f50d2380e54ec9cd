use Rattle.std.proofs.Common.{◌<◌, ap, ◌∙◌, length, subst, sym}
use Rattle.std.specs.Prelude.{IfSome}
use Rattle.std.specs.Map.{lookup}
use Rattle.page_index.specs.Places.{same_key, key_of, confirmed, IsIndexOf}
use Rattle.page_index.proofs.Leading.{look_up, found_in}
use Rattle.page_index.proofs.index.PageIndex.find.Goals as goal

pub returns-clause-place : goal.returns-clause-place
returns-clause-place g c =
    let kept = subst (IsIndexOf g.T.HoldsPage.page c.args.places.now) (sym c.self.view_is) c.requires in
    c.confirm.ensures
    ∙ ap (confirmed g.T.HoldsPage.page c.args.places.now c.args.id) (c.copied-named.ensures ∙ c.get.ensures.value)
    ∙ look_up g.T.HoldsPage.page c.args.places.now c.args.id (lookup (same_key (key_of c.args.id)) c.self.inside.names.entries) (λ f h. kept.leads f c.args.id h)

pub returns-clause-there : goal.returns-clause-there
returns-clause-there g c =
    subst (λ r. IfSome r (λ f. f < length c.args.places.now)) (sym (returns-clause-place g c)) (found_in g.T.HoldsPage.page c.args.places.now c.args.id)
