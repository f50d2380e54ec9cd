use Rattle.std.proofs.Common.{◌≤◌}
use Rattle.ds_disk.specs.Contents.{WhenTold, Becomes, Same}
use Rattle.table_copy.proofs.Steps.{AreGiven}
use Rattle.table_copy.proofs.copy.copy_pages.Given as goal

abbrev pub invariant-loop-n : goal.invariant-loop-n
invariant-loop-n g l = record {
  told : WhenTold (g.D.Disk.contents l.fn.disk) (AreGiven (g.K.Sink.taken l.fn.sink) (g.K.Sink.taken l.sink) l.table l.heap l.n);
  same : Becomes (g.D.Disk.contents l.fn.disk) (g.D.Disk.contents l.disk) Same;
  disk_later : g.D.Disk.faults l.fn.disk ≤ g.D.Disk.faults l.disk;
  sink_later : g.K.Sink.faults l.fn.sink ≤ g.K.Sink.faults l.sink;
}
