use Rattle.std.proofs.Common.{◌≡◌, false, not, ◌&&◌, ◌++◌, sym, ap, ◌∙◌, rules}
use Rattle.ds_base.specs.Pages.{same_page}
use Rattle.page_tree.specs.Pages.{is_in}
use Rattle.page_tree.proofs.Trees.{at_Fork, starts, in_lower, in_upper, split_without_lower, split_without_upper, gone_lower, gone_upper}
use Rattle.page_tree.proofs.tree.Tree.+remove.Goals as goal

pub remove-requires : goal.remove-requires
remove-requires t c =
    let f = at_Fork c.self.view_is c.self.invariant c.in-Fork.is in
    let shorter = f.shorter.0 in
    let value = c.deref_mut.ensures.value in
    let other : same_page c.args.id c.in-Fork.field-0 ≡ false = starts c.args.id c.args.self.now c.starts_with.result c.starts_with.ensures.first c.in-Fork.field-0 (c.in-Fork.lower.value ++ c.in-Fork.upper.value) f.is ∙ c.if-starts_with.false in
    (search rules, ap (is_in c.args.id) value ∙ in_lower _ _ _ _ _ f c.args.id c.requires other (sym c.comes_before.ensures ∙ c.if-comes_before.true))

pub remove-requires-in-Fork : goal.remove-requires-in-Fork
remove-requires-in-Fork t c =
    let f = at_Fork c.self.view_is c.self.invariant c.in-Fork.is in
    let shorter = f.shorter.1 in
    let value = c.deref_mut-in-Fork.ensures.value in
    let other : same_page c.args.id c.in-Fork.field-0 ≡ false = starts c.args.id c.args.self.now c.starts_with.result c.starts_with.ensures.first c.in-Fork.field-0 (c.in-Fork.lower.value ++ c.in-Fork.upper.value) f.is ∙ c.if-starts_with.false in
    (search rules, ap (is_in c.args.id) value ∙ in_upper _ _ _ _ _ f c.args.id c.requires other (sym c.comes_before.ensures ∙ c.if-comes_before.false))

pub invariant_of-self : goal.invariant_of-self
invariant_of-self t c = split_without_lower _ _ _ _ _ (at_Fork c.self.view_is c.self.invariant c.in-Fork.is) c.args.id c.remove.new.self
    (λ q. c.remove.ensures.pages q ∙ ap (λ xs. not (same_page q c.args.id) && is_in q xs) c.deref_mut.ensures.value)

pub returns-then-comes_before-clause-pages : goal.returns-then-comes_before-clause-pages
returns-then-comes_before-clause-pages t c =
    let f = at_Fork c.self.view_is c.self.invariant c.in-Fork.is in
    let other : same_page c.args.id c.in-Fork.field-0 ≡ false = starts c.args.id c.args.self.now c.starts_with.result c.starts_with.ensures.first c.in-Fork.field-0 (c.in-Fork.lower.value ++ c.in-Fork.upper.value) f.is ∙ c.if-starts_with.false in
    gone_lower _ _ _ _ _ f c.args.id c.remove.new.self other (sym c.comes_before.ensures ∙ c.if-comes_before.true)
    (λ q. c.remove.ensures.pages q ∙ ap (λ xs. not (same_page q c.args.id) && is_in q xs) c.deref_mut.ensures.value)

pub returns-clause-pages : goal.returns-clause-pages
returns-clause-pages t c =
    let f = at_Fork c.self.view_is c.self.invariant c.in-Fork.is in
    let other : same_page c.args.id c.in-Fork.field-0 ≡ false = starts c.args.id c.args.self.now c.starts_with.result c.starts_with.ensures.first c.in-Fork.field-0 (c.in-Fork.lower.value ++ c.in-Fork.upper.value) f.is ∙ c.if-starts_with.false in
    gone_upper _ _ _ _ _ f c.args.id c.remove-in-Fork.new.self other (sym c.comes_before.ensures ∙ c.if-comes_before.false)
    (λ q. c.remove-in-Fork.ensures.pages q ∙ ap (λ xs. not (same_page q c.args.id) && is_in q xs) c.deref_mut-in-Fork.ensures.value)

pub invariant_of-self-2 : goal.invariant_of-self-2
invariant_of-self-2 t c = split_without_upper _ _ _ _ _ (at_Fork c.self.view_is c.self.invariant c.in-Fork.is) c.args.id c.remove-in-Fork.new.self
    (λ q. c.remove-in-Fork.ensures.pages q ∙ ap (λ xs. not (same_page q c.args.id) && is_in q xs) c.deref_mut-in-Fork.ensures.value)
