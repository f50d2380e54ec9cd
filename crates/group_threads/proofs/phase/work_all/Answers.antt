use Rattle.std.proofs.Common.{◌+◌, ◌≤◌, length, ◌∙◌, arith}
use Rattle.std.specs.Arc.{arc_value}
use Rattle.group_threads.proofs.Handed.{all_ready, all_left, left_length}
use Rattle.group_threads.proofs.phase.work_all.Goals as goal

pub work_each-requires : goal.work_each-requires
work_each-requires g c =
    let few : 1 + length c.loop.errands.items ≤ 64 = omega (arith, c.requires.few, c.loop.invariant.0) in
    all_ready (arc_value c.args.stage.now) 1 c.loop.errands.items few c.loop.invariant.1

pub returns-then-is_closed-clause-count : goal.returns-then-is_closed-clause-count
returns-then-is_closed-clause-count g c = left_length (arc_value c.args.stage.now) c.loop.errands.items c.work_each.new.items.items c.work_each.ensures.each ∙ c.loop.invariant.0

pub returns-then-is_closed-clause-at : goal.returns-then-is_closed-clause-at
returns-then-is_closed-clause-at g c = all_left (arc_value c.args.stage.now) 1 c.loop.errands.items c.work_each.new.items.items c.loop.invariant.1 c.work_each.ensures.each

pub loop-preserved : goal.loop-preserved
loop-preserved g c = (
  left_length (arc_value c.args.stage.now) c.loop.errands.items c.work_each.new.items.items c.work_each.ensures.each ∙ c.loop.invariant.0,
  all_left (arc_value c.args.stage.now) 1 c.loop.errands.items c.work_each.new.items.items c.loop.invariant.1 c.work_each.ensures.each,
)
