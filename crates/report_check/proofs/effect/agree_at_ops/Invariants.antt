use Rattle.std.proofs.Common.{drop}
use Rattle.report_check.specs.Effects.{AgreeAtOp}
use Rattle.report_check.proofs.Leaving.{Leaves}
use Rattle.report_check.proofs.effect.agree_at_ops.Given as goal

abbrev pub invariant-loop-op : goal.invariant-loop-op
invariant-loop-op l = Leaves (AgreeAtOp l.a l.b) l.ops (drop l.op-index l.ops)
