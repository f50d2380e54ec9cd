use Rattle.fallen_pages.proofs.restarts_go.Goals as goal
use Rattle.fallen_pages.proofs.Steps.{steps_go}

pub returns : goal.returns
returns g c = steps_go g.D.Disk.alive g.D.Disk.contents c.calls_go.ensures c.groups_begin.ensures.anew
