use Rattle.std.proofs.Common.{◌≡◌, ◌++◌, drop}
use Rattle.ds_model.specs.Told.{told_reads}
use Rattle.report_told.proofs.reads.tell_reads.Given as goal

abbrev pub invariant-loop-op : goal.invariant-loop-op
invariant-loop-op l = l.told ++ told_reads (drop l.op-index l.ops) l.answers.items ≡ told_reads l.fn.ops l.fn.reads
