use Rattle.std.proofs.Common.{ap, ◌∙◌}
use Rattle.std.specs.Prelude.{◌||◌}
use Rattle.deadlock_cycle.specs.Waiting.{is_pair_of, is_waiting}
use Rattle.deadlock_cycle.proofs.Lists.{take_pair, leave_pair}
use Rattle.deadlock_cycle.proofs.waiters.Waiters.new.Goals as goal
use Rattle.deadlock_cycle.proofs.waiters.Waiters.new.Goals.{then-wait-highest+in_ok-add, else-wait-highest}

pub loop-wait-preserved : goal.loop-wait-preserved
loop-wait-preserved c = λ a b. elim c.if-wait-highest.branch [
  | then-wait-highest+in_ok-add w ↦
      ap (λ m. is_waiting m.lists a b) w.waiters-is ∙ w.in_ok-add.ensures a b ∙ ap (λ s. s || is_pair_of c.wait-item.result a b) (c.loop-wait.invariant a b)
      ∙ take_pair c.args.waits.now c.loop-wait.wait-index c.wait-item.result a b c.args.highest c.loop-wait-test.true c.wait-item.is w.if-wait-highest.true
  | else-wait-highest w ↦
      ap (λ m. is_waiting m.lists a b) w.waiters-is ∙ c.loop-wait.invariant a b
      ∙ leave_pair c.args.waits.now c.loop-wait.wait-index c.wait-item.result a b c.args.highest c.loop-wait-test.true c.wait-item.is w.if-wait-highest.false
]
