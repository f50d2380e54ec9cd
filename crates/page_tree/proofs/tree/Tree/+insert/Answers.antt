use Rattle.std.proofs.Common.{◌||◌, sym, ap, ◌∙◌, rules, arith}
use Rattle.ds_base.specs.Pages.{same_page}
use Rattle.page_tree.specs.Pages.{is_in}
use Rattle.page_tree.proofs.Trees.{at_Fork, absent_lower, absent_upper, split_lower, split_upper, added_lower, added_upper}
use Rattle.page_tree.proofs.tree.Tree.+insert.Goals as goal

pub insert-requires : goal.insert-requires
insert-requires t c =
    let f = at_Fork c.self.view_is c.self.invariant c.in-Fork.is in
    let shorter = f.shorter.0 in
    let value = c.deref_mut.ensures.value in
    let less = c.saturating_sub.ensures in
    let level = c.requires.level in
    (search rules, (grind (arith, less, level), ap (is_in c.in_order.result.1) value ∙ absent_lower _ _ _ _ _ f c.args.id c.requires.absent c.in_order.result c.in_order.ensures))

pub insert-requires-else-comes_before : goal.insert-requires-else-comes_before
insert-requires-else-comes_before t c =
    let f = at_Fork c.self.view_is c.self.invariant c.in-Fork.is in
    let shorter = f.shorter.1 in
    let value = c.deref_mut-else-comes_before.ensures.value in
    let less = c.saturating_sub-else-comes_before.ensures in
    let level = c.requires.level in
    (search rules, (grind (arith, less, level), ap (is_in c.in_order.result.1) value ∙ absent_upper _ _ _ _ _ f c.args.id c.requires.absent c.in_order.result c.in_order.ensures))

pub invariant_of-self-then-comes_before : goal.invariant_of-self-then-comes_before
invariant_of-self-then-comes_before t c = split_lower _ _ _ _ _ (at_Fork c.self.view_is c.self.invariant c.in-Fork.is) c.args.id c.requires.absent c.in_order.result c.in_order.ensures c.insert.new.self
    (sym c.comes_before.ensures ∙ c.if-comes_before.true)
    (λ q. c.insert.ensures.pages q ∙ ap (λ xs. same_page q c.in_order.result.1 || is_in q xs) c.deref_mut.ensures.value)

pub invariant_of-self-else-comes_before : goal.invariant_of-self-else-comes_before
invariant_of-self-else-comes_before t c = split_upper _ _ _ _ _ (at_Fork c.self.view_is c.self.invariant c.in-Fork.is) c.args.id c.requires.absent c.in_order.result c.in_order.ensures c.insert-else-comes_before.new.self
    (sym c.comes_before.ensures ∙ c.if-comes_before.false)
    (λ q. c.insert-else-comes_before.ensures.pages q ∙ ap (λ xs. same_page q c.in_order.result.1 || is_in q xs) c.deref_mut-else-comes_before.ensures.value)

pub returns-then-comes_before-clause-pages : goal.returns-then-comes_before-clause-pages
returns-then-comes_before-clause-pages t c = added_lower _ _ _ _ _ (at_Fork c.self.view_is c.self.invariant c.in-Fork.is) c.args.id c.requires.absent c.in_order.result c.in_order.ensures c.insert.new.self
    (λ q. c.insert.ensures.pages q ∙ ap (λ xs. same_page q c.in_order.result.1 || is_in q xs) c.deref_mut.ensures.value)

pub returns-else-comes_before-clause-pages : goal.returns-else-comes_before-clause-pages
returns-else-comes_before-clause-pages t c = added_upper _ _ _ _ _ (at_Fork c.self.view_is c.self.invariant c.in-Fork.is) c.args.id c.requires.absent c.in_order.result c.in_order.ensures c.insert-else-comes_before.new.self
    (λ q. c.insert-else-comes_before.ensures.pages q ∙ ap (λ xs. same_page q c.in_order.result.1 || is_in q xs) c.deref_mut-else-comes_before.ensures.value)
