use Rattle.std.proofs.Common.{◌≡◌, ◌++◌, take}
use Rattle.std.specs.List.{flat_map}
use Rattle.ds_model.specs.ReportText.{scanned_text}
use Rattle.report_text.proofs.reads.put_all_scanned.Given as goal

abbrev pub invariant-loop-row : goal.invariant-loop-row
invariant-loop-row l = l.out ≡ l.fn.out ++ flat_map scanned_text (take l.row-index l.rows)
