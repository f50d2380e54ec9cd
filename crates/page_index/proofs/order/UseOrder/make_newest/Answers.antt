use Rattle.std.proofs.Common.{◌≡◌, true, sym, ap, ◌∙◌, subst, nat_eq}
use Rattle.std.specs.List.{IsDistinct}
use Rattle.std.specs.Map.{keys_of}
use Rattle.page_index.specs.Uses.{newest, is_in, IsOrderOf}
use Rattle.page_index.proofs.Orders.{newest_is, whole_newest}
use Rattle.page_index.proofs.order.UseOrder.make_newest.Goals as goal

pub returns-clause-order : goal.returns-clause-order
returns-clause-order c =
    ap (λ u. keys_of u.entries) c.demote.ensures.entries
    ∙ newest_is c.args.at c.self.inside.uses.entries c.len-count.ensures.valid.0 (subst (λ o. is_in c.args.at o ≡ true) (sym c.self.view_is) c.requires)
    ∙ ap (newest c.args.at) c.self.view_is

pub returns-clause-whole : goal.returns-clause-whole
returns-clause-whole c = λ n l whole. subst (IsOrderOf n) (sym (returns-clause-order c)) (whole_newest c.args.at c.args.self.now n l whole)

pub returns-clause-distinct : goal.returns-clause-distinct
returns-clause-distinct c = subst (IsDistinct nat_eq) c.self.view_is c.len-count.ensures.valid.0
