use Rattle.rooms_stay.proofs.groups_keep_rooms.Goals as goal
use Rattle.rooms_stay.proofs.Groups.{events_keep_all}
use Rattle.rooms_stay.proofs.Runs.{runs_have_room, runs_keep}

pub returns : goal.returns
returns g c = record {
  event = events_keep_all _ g.C.CacheFace.directory g.D.Disk.alive g.D.Disk.contents g.D.Disk.faults;
  run = runs_keep _ g.C.CacheFace.directory g.D.Disk.alive g.D.Disk.contents g.D.Disk.faults;
  room = runs_have_room _ g.C.CacheFace.directory g.D.Disk.alive g.D.Disk.contents g.D.Disk.faults;
}
