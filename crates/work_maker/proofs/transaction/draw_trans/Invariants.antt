use Rattle.std.proofs.Common.{◌≡◌}
use Rattle.work_maker.specs.Made.{tran_from, series}
use Rattle.work_maker.proofs.transaction.draw_trans.Given as goal

abbrev pub invariant-loop-index : goal.invariant-loop-index
invariant-loop-index l = series (tran_from l.seat.phase l.seat.member) l.index 1 l.initial.generator ≡ (l.trans, l.generator)
