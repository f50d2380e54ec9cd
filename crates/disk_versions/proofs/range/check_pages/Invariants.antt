use Rattle.std.proofs.Common.{◌≤◌}
use Rattle.ds_disk.specs.Contents.{Contents, WhenTold, Becomes, Same}
use Rattle.ds_disk.specs.Pages.{page_at}
use Rattle.disk_versions.specs.Placing.{AreInSet}
use Rattle.disk_versions.specs.Met.{AreMet}
use Rattle.disk_versions.proofs.range.check_pages.Given as goal

abbrev pub invariant-loop-number : goal.invariant-loop-number
invariant-loop-number g l = record {
  told : WhenTold (g.D.Disk.contents l.fn.disk) (λ (c : Contents). AreMet (page_at c.pages) l.met → AreInSet (page_at c.pages) l.met.made.records l.renews l.set l.number l.pages);
  same : Becomes (g.D.Disk.contents l.fn.disk) (g.D.Disk.contents l.disk) Same;
  later : g.D.Disk.faults l.fn.disk ≤ g.D.Disk.faults l.disk;
  count : l.pages ≤ l.number;
}
