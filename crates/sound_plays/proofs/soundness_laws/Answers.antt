use Rattle.group_run.specs.Ends.{TellsDamage}
use Rattle.sound_plays.proofs.Kept.{leaves_sound}
use Rattle.sound_plays.proofs.soundness_laws.Goals as goal

pub returns : goal.returns
returns g c = λ old new met.
    leaves_sound g.D.Disk.alive g.D.Disk.contents c.disk_laws.ensures.left c.group_restart_laws.ensures.restart (record {
      again = c.reading_laws.ensures.again;
      cut = c.reading_laws.ensures.cut;
      sound = c.log_laws.ensures.sound;
    }) old new (TellsDamage met)
