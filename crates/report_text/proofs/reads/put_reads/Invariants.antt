use Rattle.std.proofs.Common.{◌≡◌, ◌++◌, take}
use Rattle.std.specs.List.{flat_map}
use Rattle.ds_model.specs.ReportText.{read_text}
use Rattle.report_text.proofs.reads.put_reads.Given as goal

abbrev pub invariant-loop-read : goal.invariant-loop-read
invariant-loop-read l = l.out ≡ l.fn.out ++ flat_map read_text (take l.read-index l.reads)
