use Rattle.std.proofs.Common.{◌≡◌, true, sym, ap, ◌∙◌, subst}
use Rattle.std.specs.Map.{keys_of}
use Rattle.page_index.specs.Uses.{oldest, is_in, IsOrderOf}
use Rattle.page_index.proofs.Orders.{oldest_is, whole_oldest}
use Rattle.page_index.proofs.order.UseOrder.make_oldest.Goals as goal

pub returns-clause-order : goal.returns-clause-order
returns-clause-order c =
    ap (λ u. keys_of u.entries) c.promote.ensures.entries
    ∙ oldest_is c.args.at c.self.inside.uses.entries c.len-count.ensures.valid.0 (subst (λ o. is_in c.args.at o ≡ true) (sym c.self.view_is) c.requires)
    ∙ ap (oldest c.args.at) c.self.view_is

pub returns-clause-whole : goal.returns-clause-whole
returns-clause-whole c = λ n l whole. subst (IsOrderOf n) (sym (returns-clause-order c)) (whole_oldest c.args.at c.args.self.now n l whole)
