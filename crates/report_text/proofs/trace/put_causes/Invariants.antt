use Rattle.std.proofs.Common.{◌≡◌, ◌++◌, take}
use Rattle.std.specs.List.{flat_map}
use Rattle.ds_model.specs.ReportText.{cause_text}
use Rattle.report_text.proofs.trace.put_causes.Given as goal

abbrev pub invariant-loop-cause : goal.invariant-loop-cause
invariant-loop-cause l = l.out ≡ l.fn.out ++ flat_map cause_text (take l.cause-index l.causes)
