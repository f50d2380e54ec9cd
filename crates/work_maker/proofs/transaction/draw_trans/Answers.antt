use Rattle.std.proofs.Common.{◌+◌, refl, arith}
use Rattle.work_maker.specs.Made.{series, tran_from}
use Rattle.work_maker.proofs.Series.{step}
use Rattle.work_maker.proofs.transaction.draw_trans.Goals as goal

pub loop-index-init : goal.loop-index-init
unfolding series
loop-index-init c = rw c.new-trans.ensures refl

pub loop-index-preserved : goal.loop-index-preserved
loop-index-preserved c =
    rw c.in_ok-push.ensures.ok (step (tran_from c.args.seat.phase c.args.seat.member) c.loop-index.index 1 c.args.generator.now (c.loop-index.index + 1) c.loop-index.trans c.loop-index.generator c.in_ok-draw_tran.field-0 c.draw_tran.new.generator (omega arith) c.loop-index.invariant c.in_ok-draw_tran.ensures)
