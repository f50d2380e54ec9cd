use Rattle.std.proofs.Common.{◌≡◌, ℕ, ◌-◌, ◌++◌, List, true, sym, ap, subst, ◌∙◌, refl, arith}
use Rattle.std.specs.List.{range_with_len}
use Rattle.page_index.specs.Uses.{oldest, is_in, IsOrderOf}
use Rattle.page_index.proofs.Orders.{below, all_below, none_below, still_in, moved_more, with_nothing, whole_range}
use Rattle.page_index.proofs.order.UseOrder.reset.Goals as goal

pub loop-done-init : goal.loop-done-init
loop-done-init c =
    let whole : c.args.places - 0 ≡ c.args.places = omega arith in
    sym (ap (λ n. below n c.args.self.now) whole ∙ all_below c.args.places c.args.self.now c.requires.within)

pub make_oldest-requires : goal.make_oldest-requires
make_oldest-requires c =
    let f : ℕ = c.args.places - 1 - c.loop-done.done in
    subst (λ (o : List ℕ). is_in f o ≡ true) (sym c.loop-done.invariant)
    (still_in c.args.places c.loop-done.done f c.args.self.now c.loop-done-test.true refl (c.requires.covers f (omega (arith, c.loop-done-test.true))))

pub loop-done-preserved : goal.loop-done-preserved
loop-done-preserved c =
    let f : ℕ = c.args.places - 1 - c.loop-done.done in
    c.make_oldest.ensures.order ∙ ap (oldest f) c.loop-done.invariant ∙ moved_more c.args.places c.loop-done.done f c.args.self.now c.loop-done-test.true refl

pub returns-clause-order : goal.returns-clause-order
returns-clause-order c =
    let n = c.args.places in
    let xs = c.args.self.now in
    let all : c.loop-done.done ≡ n = omega (arith, c.loop-done-test.false, c.loop-done.auto.done-end) in
    let none : n - n ≡ 0 = omega arith in
    c.loop-done.invariant
    ∙ ap (λ d. range_with_len (n - d) d ++ below (n - d) xs) all
    ∙ ap (λ z. range_with_len z n ++ below z xs) none
    ∙ ap (λ l. range_with_len 0 n ++ l) (none_below xs)
    ∙ with_nothing (range_with_len 0 n)

pub returns-clause-whole : goal.returns-clause-whole
returns-clause-whole c = subst (IsOrderOf c.args.places) (sym (returns-clause-order c)) (whole_range c.args.places)
