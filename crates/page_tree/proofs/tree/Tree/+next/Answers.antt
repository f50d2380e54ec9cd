use Rattle.std.proofs.Common.{◌≡◌, List, true, false, Some, None, slice_get, sym, ap, ◌∙◌, subst, rules}
use Rattle.ds_base.specs.declared.names.PageId.{PageId}
use Rattle.page_tree.specs.Order.{is_past, comes_before, IsNextAmong}
use Rattle.page_tree.specs.Pages.{is_in}
use Rattle.page_tree.proofs.Trees.{at_Fork, next_here, next_upper, next_lower, next_first}
use Rattle.page_tree.proofs.tree.Tree.+next.Goals as goal

pub returns-then-is_past : goal.returns-then-is_past
returns-then-is_past t c = next_here _ _ _ _ _ (at_Fork c.self.view_is c.self.invariant c.in-Fork.is) c.args.after (sym c.is_past.ensures ∙ c.if-is_past.true)

pub returns-then-not-is_past : goal.returns-then-not-is_past
returns-then-not-is_past t c =
    let least : is_past c.args.after c.in-Fork.least ≡ false = sym c.is_past.ensures ∙ c.if-is_past.false in
    let middle : is_past c.args.after c.in-Fork.middle ≡ false = sym c.is_past-in-Fork.ensures ∙ c.if-not-is_past.true in
    next_upper _ _ _ _ _ (at_Fork c.self.view_is c.self.invariant c.in-Fork.is) c.args.after c.next.result least middle
    (subst (λ (xs : List PageId). IsNextAmong (λ q. is_in q xs) c.args.after c.next.result) c.deref.ensures c.next.ensures)

pub returns-in-Some : goal.returns-in-Some
returns-in-Some t c =
    let least : is_past c.args.after c.in-Fork.least ≡ false = sym c.is_past.ensures ∙ c.if-is_past.false in
    let next : IsNextAmong (λ q. is_in q c.deref-in-Fork.result.now) c.args.after (Some c.in-Some.next) = subst (IsNextAmong (λ q. is_in q c.deref-in-Fork.result.now) c.args.after) c.in-Some.is c.next-in-Fork.ensures in
    next_lower _ _ _ _ _ (at_Fork c.self.view_is c.self.invariant c.in-Fork.is) c.args.after c.in-Some.next least
    (subst (λ (xs : List PageId). IsNextAmong (λ q. is_in q xs) c.args.after (Some c.in-Some.next)) c.deref-in-Fork.ensures next)

pub returns-in_default : goal.returns-in_default
returns-in_default t c =
    let least : is_past c.args.after c.in-Fork.least ≡ false = sym c.is_past.ensures ∙ c.if-is_past.false in
    let middle : is_past c.args.after c.in-Fork.middle ≡ true = sym c.is_past-in-Fork.ensures ∙ c.if-not-is_past.false in
    let next : IsNextAmong (λ q. is_in q c.deref-in-Fork.result.now) c.args.after None = subst (IsNextAmong (λ q. is_in q c.deref-in-Fork.result.now) c.args.after) c.in_default.is c.next-in-Fork.ensures in
    next_first _ _ _ _ _ (at_Fork c.self.view_is c.self.invariant c.in-Fork.is) c.args.after c.first.result least middle
    (subst (λ (xs : List PageId). IsNextAmong (λ q. is_in q xs) c.args.after None) c.deref-in-Fork.ensures next)
    (subst (λ (xs : List PageId). c.first.result ≡ slice_get xs 0) c.deref-in-Fork-2.ensures c.first.ensures.first)
    (subst (λ (xs : List PageId). (g q : PageId) → c.first.result ≡ Some g → is_in q (Rattle.std.proofs.Common.drop 1 xs) ≡ true → comes_before g q ≡ true) c.deref-in-Fork-2.ensures c.first.ensures.least)
