use Rattle.std.proofs.Common.{drop, slice_get, length, suc, sym, ap, ◌∙◌}
use Rattle.page_tree.proofs.Trees.{at_Fork, behind_of, take_lower, take_upper, take_only}
use Rattle.page_tree.proofs.tree.Tree.+take_first.Goals as goal

pub invariant_of-self : goal.invariant_of-self
invariant_of-self t c =
    (take_lower _ _ _ _ _ (at_Fork c.self.view_is c.self.invariant c.in-Fork.is) c.in-Some.next c.take_first.new.self
    (sym c.in-Some.is ∙ c.first.ensures.first ∙ ap (λ xs. slice_get xs 0) c.deref.ensures)
    (behind_of c.in-Some.next c.first.result c.deref.result.now c.in-Fork.lower.value c.in-Some.is c.deref.ensures c.first.ensures.least)
    (c.take_first.ensures ∙ ap (drop 1) c.deref_mut.ensures.value)).0

pub returns-in-Some : goal.returns-in-Some
returns-in-Some t c =
    (take_lower _ _ _ _ _ (at_Fork c.self.view_is c.self.invariant c.in-Fork.is) c.in-Some.next c.take_first.new.self
    (sym c.in-Some.is ∙ c.first.ensures.first ∙ ap (λ xs. slice_get xs 0) c.deref.ensures)
    (behind_of c.in-Some.next c.first.result c.deref.result.now c.in-Fork.lower.value c.in-Some.is c.deref.ensures c.first.ensures.least)
    (c.take_first.ensures ∙ ap (drop 1) c.deref_mut.ensures.value)).1

pub invariant_of-self-in-Some-first : goal.invariant_of-self-in-Some-first
invariant_of-self-in-Some-first t c =
    (take_upper _ _ _ _ _ (at_Fork c.self.view_is c.self.invariant c.in-Fork.is) c.in-Some-first.next c.take_first-in-Some-first.new.self
    (sym (ap (λ xs. slice_get xs 0) c.deref.ensures) ∙ sym c.first.ensures.first ∙ c.in_default.is)
    (sym c.in-Some-first.is ∙ c.first-in-Fork.ensures.first ∙ ap (λ xs. slice_get xs 0) c.deref-in-Fork.ensures)
    (behind_of c.in-Some-first.next c.first-in-Fork.result c.deref-in-Fork.result.now c.in-Fork.upper.value c.in-Some-first.is c.deref-in-Fork.ensures c.first-in-Fork.ensures.least)
    (c.take_first-in-Some-first.ensures ∙ ap (drop 1) c.deref_mut-in-Some-first.ensures.value)).0

pub returns-in-Some-first : goal.returns-in-Some-first
returns-in-Some-first t c =
    (take_upper _ _ _ _ _ (at_Fork c.self.view_is c.self.invariant c.in-Fork.is) c.in-Some-first.next c.take_first-in-Some-first.new.self
    (sym (ap (λ xs. slice_get xs 0) c.deref.ensures) ∙ sym c.first.ensures.first ∙ c.in_default.is)
    (sym c.in-Some-first.is ∙ c.first-in-Fork.ensures.first ∙ ap (λ xs. slice_get xs 0) c.deref-in-Fork.ensures)
    (behind_of c.in-Some-first.next c.first-in-Fork.result c.deref-in-Fork.result.now c.in-Fork.upper.value c.in-Some-first.is c.deref-in-Fork.ensures c.first-in-Fork.ensures.least)
    (c.take_first-in-Some-first.ensures ∙ ap (drop 1) c.deref_mut-in-Some-first.ensures.value)).1

pub take_last-requires : goal.take_last-requires
take_last-requires t c =
    ap (λ xs. suc (length xs)) (take_only _ _ _ _ _ (at_Fork c.self.view_is c.self.invariant c.in-Fork.is)
    (sym (ap (λ xs. slice_get xs 0) c.deref.ensures) ∙ sym c.first.ensures.first ∙ c.in_default.is)
    (sym (ap (λ xs. slice_get xs 0) c.deref-in-Fork.ensures) ∙ sym c.first-in-Fork.ensures.first ∙ c.in_default-first.is)).0

pub returns : goal.returns
returns t c =
    c.take_last.ensures
    ∙ sym (take_only _ _ _ _ _ (at_Fork c.self.view_is c.self.invariant c.in-Fork.is)
    (sym (ap (λ xs. slice_get xs 0) c.deref.ensures) ∙ sym c.first.ensures.first ∙ c.in_default.is)
    (sym (ap (λ xs. slice_get xs 0) c.deref-in-Fork.ensures) ∙ sym c.first-in-Fork.ensures.first ∙ c.in_default-first.is)).1
