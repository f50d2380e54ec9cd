use Rattle.std.proofs.Common.{◌≡◌, ◌++◌, take}
use Rattle.std.specs.List.{flat_map}
use Rattle.ds_model.specs.ReportText.{cycle_text}
use Rattle.report_line.proofs.refusal.put_cycle.Given as goal

abbrev pub invariant-loop-name : goal.invariant-loop-name
invariant-loop-name l = l.out ≡ l.fn.out ++ flat_map cycle_text (take l.name-index l.cycle)
