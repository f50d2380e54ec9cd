use Rattle.std.proofs.Common.{◌+◌, refl, arith}
use Rattle.work_maker.specs.Made.{series, part_from}
use Rattle.work_maker.proofs.Series.{step}
use Rattle.work_maker.proofs.script.draw_parts.Goals as goal

pub loop-index-init : goal.loop-index-init
unfolding series
loop-index-init c = rw c.new-parts.ensures refl

pub loop-index-preserved : goal.loop-index-preserved
loop-index-preserved c =
    rw c.in_ok-push.ensures.ok (step (part_from c.args.phase) c.loop-index.index 1 c.args.generator.now (c.loop-index.index + 1) c.loop-index.parts c.loop-index.generator c.in_ok-draw_part.field-0 c.draw_part.new.generator (omega arith) c.loop-index.invariant c.in_ok-draw_part.ensures)
