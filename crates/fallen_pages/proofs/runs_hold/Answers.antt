use Rattle.fallen_pages.proofs.runs_hold.Goals as goal
use Rattle.fallen_pages.proofs.Whole as whole

pub returns : goal.returns
returns g c = record {
  start = whole.runs_start _ g.C.CacheFace.directory g.D.Disk.alive g.D.Disk.contents g.D.Disk.faults c.groups_begin.ensures.starts;
  runs = whole.runs_hold _ g.C.CacheFace.directory g.D.Disk.alive g.D.Disk.contents g.D.Disk.faults;
}
