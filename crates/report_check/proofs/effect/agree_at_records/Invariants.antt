use Rattle.std.proofs.Common.{drop}
use denote.Ref.{Bor}
use Rattle.ds_model.specs.declared.log.LogRecord.{LogRecord}
use Rattle.report_check.specs.Effects.{AgreeAtRecord}
use Rattle.report_check.proofs.Leaving.{Leaves}
use Rattle.report_check.proofs.effect.agree_at_records.Given as goal

abbrev pub invariant-loop-item : goal.invariant-loop-item
invariant-loop-item l = Leaves (λ (r : Bor LogRecord). AgreeAtRecord l.a l.b r.now) l.items (drop l.item-index l.items)
