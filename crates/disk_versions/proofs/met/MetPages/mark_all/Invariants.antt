use Rattle.std.proofs.Common.{◌≡◌, ◌≤◌, take}
use Rattle.ds_disk.specs.Contents.{Contents, WhenTold, Becomes, Same}
use Rattle.ds_disk.specs.Pages.{page_at}
use Rattle.disk_versions.specs.Met.{AreMet, HaveMarks}
use Rattle.disk_versions.proofs.met.MetPages.mark_all.Given as goal

-- the first pages are marked
abbrev pub invariant-loop-id : goal.invariant-loop-id
invariant-loop-id g l = record {
  made : l.self.made ≡ l.fn.self.made;
  there : HaveMarks (take l.id-index l.pages) l.fn.self l.self;
  met : WhenTold (g.D.Disk.contents l.fn.disk) (λ (c : Contents). AreMet (page_at c.pages) l.fn.self → AreMet (page_at c.pages) l.self);
  same : Becomes (g.D.Disk.contents l.fn.disk) (g.D.Disk.contents l.disk) Same;
  later : g.D.Disk.faults l.fn.disk ≤ g.D.Disk.faults l.disk;
}
