use Rattle.std.proofs.Common.{ap, ◌∙◌, refl, sym, subst, ◌≤◌, arith}
use Rattle.std.specs.Map.{keys_of}
use Rattle.page_index.proofs.Orders.{counted, whole_at}
use Rattle.page_index.proofs.order.UseOrder.new.Goals as goal

pub loop-done-preserved : goal.loop-done-preserved
loop-done-preserved c = (
  ap (λ u. keys_of u.entries) c.in_ok-put.ensures.entries
      ∙ counted c.args.places c.loop-done.done _ _ c.loop-done.uses c.loop-done-test.true refl c.loop-done.invariant.1 c.loop-done.invariant.0,
  subst (λ n. c.args.places ≤ n) (sym (ap (λ u. u.cap) c.in_ok-put.ensures.entries)) c.loop-done.invariant.1,
)

pub returns-clause-whole : goal.returns-clause-whole
returns-clause-whole c =
    whole_at c.args.places c.loop-done.done (keys_of c.loop-done.uses.entries) (omega (arith, c.loop-done-test.false)) (omega (arith, c.loop-done.auto.done-end)) c.loop-done.invariant.0
