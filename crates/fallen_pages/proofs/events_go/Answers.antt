use Rattle.fallen_pages.proofs.events_go.Goals as goal
use Rattle.fallen_pages.proofs.Taken as taken

pub returns : goal.returns
returns g c = taken.events_go _ g.C.CacheFace.directory g.D.Disk.alive g.D.Disk.contents g.D.Disk.faults c.events_go.ensures c.restarts_go.ensures
