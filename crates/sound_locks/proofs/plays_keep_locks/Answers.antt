use Rattle.sound_locks.proofs.Played.{plays_keep}
use Rattle.sound_locks.proofs.plays_keep_locks.Goals as goal

pub returns : goal.returns
returns g c = plays_keep g.D.Disk.alive g.D.Disk.contents g.D.Disk.faults c.runs_keep_locks.ensures.led
