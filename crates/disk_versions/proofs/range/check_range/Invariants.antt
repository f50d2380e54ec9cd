use Rattle.std.proofs.Common.{ℕ, ◌≤◌, ◌+◌, ◌*◌, ◌^◌}
use Rattle.ds_disk.specs.Contents.{Contents, WhenTold, Becomes, Same}
use Rattle.ds_disk.specs.Pages.{page_at}
use Rattle.disk_versions.specs.Placing.{AreInSets}
use Rattle.disk_versions.specs.Met.{AreMet}
use Rattle.disk_versions.specs.Ranged.{sets_before}
use Rattle.disk_versions.proofs.range.check_range.Given as goal

abbrev pub invariant-loop-before : goal.invariant-loop-before
invariant-loop-before g l = record {
  told : WhenTold (g.D.Disk.contents l.fn.disk) (λ (c : Contents). AreMet (page_at c.pages) l.met → (first : ℕ) → AreInSets (page_at c.pages) l.met.made.records l.renews l.behind (sets_before l.met.made.range) first → AreInSets (page_at c.pages) l.met.made.records l.renews l.behind l.before (first + l.pages));
  same : Becomes (g.D.Disk.contents l.fn.disk) (g.D.Disk.contents l.disk) Same;
  later : g.D.Disk.faults l.fn.disk ≤ g.D.Disk.faults l.disk;
  count : l.pages ≤ l.before * 2 ^ 32;
}
