use Rattle.std.proofs.Common.{◌≤◌, take}
use Rattle.ds_disk.specs.Contents.{Contents, WhenTold, Becomes, Same}
use Rattle.ds_disk.specs.Pages.{page_at}
use Rattle.kept_pages.specs.Exact.{Judges}
use Rattle.kept_pages.specs.Unmet.{IsSeen}
use Rattle.kept_pages.proofs.unmet.judge_more.Given as goal

abbrev pub invariant-loop-need : goal.invariant-loop-need
invariant-loop-need g l =
    WhenTold (g.D.Disk.contents l.fn.disk) (λ (c : Contents). Judges (page_at c.pages) l.fn.first l.found (take l.need-index l.needs))
    × Becomes (g.D.Disk.contents l.fn.disk) (g.D.Disk.contents l.disk) Same
    × (g.D.Disk.faults l.fn.disk ≤ g.D.Disk.faults l.disk)
    × WhenTold (g.D.Disk.contents l.fn.disk) (λ (c : Contents). IsSeen (page_at c.pages) l.seen l.page)
