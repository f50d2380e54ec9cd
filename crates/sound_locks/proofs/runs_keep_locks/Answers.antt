use Rattle.sound_locks.proofs.Led.{led, unfailed_sound}
use Rattle.sound_locks.proofs.runs_keep_locks.Goals as goal

pub returns : goal.returns
returns g c = record {
  led = led _ g.D.Disk.alive g.D.Disk.contents g.D.Disk.faults c.locked_runs.ensures c.claims_are_sound.ensures.sound c.claims_are_sound.ensures.retained;
  unfailed = unfailed_sound _ g.D.Disk.alive g.D.Disk.contents g.D.Disk.faults;
}
