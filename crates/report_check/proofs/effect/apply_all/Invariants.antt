use Rattle.std.proofs.Common.{◌≡◌, drop, map}
use denote.Ref.{Bor}
use Rattle.ds_model.specs.declared.log.LogRecord.{LogRecord}
use Rattle.ds_model.specs.Logs.{after_records}
use Rattle.report_check.proofs.effect.apply_all.Given as goal

abbrev pub invariant-loop-item : goal.invariant-loop-item
invariant-loop-item l = after_records l.rows (map (λ (r : Bor LogRecord). r.now) (drop l.item-index l.items)) ≡ after_records l.fn.rows (map (λ (r : Bor LogRecord). r.now) l.items)
