use Rattle.std.proofs.Common.{◌<◌, sym, subst}
use Rattle.std.specs.Prelude.{IfSome}
use Rattle.std.specs.Map.{keys_of}
use Rattle.page_index.specs.Uses.{may_take, IsOrderOf}
use Rattle.page_index.proofs.Orders.{found_within}
use Rattle.page_index.proofs.order.UseOrder.first_to_take.Goals as goal

pub returns-clause-there : goal.returns-clause-there
returns-clause-there g c = λ n whole.
    subst (λ r. IfSome r (λ f. f < n)) (sym c.first_in.ensures)
    (found_within n (may_take g.T.HoldsPage.may_be_taken c.args.places.now) (keys_of c.self.inside.uses.entries) (subst (IsOrderOf n) (sym c.self.view_is) whole).within)
