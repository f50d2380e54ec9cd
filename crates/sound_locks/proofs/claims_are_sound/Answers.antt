use Rattle.sound_locks.proofs.Open.{logs_retain}
use Rattle.sound_locks.proofs.Sound.{tied_sound}
use Rattle.sound_locks.proofs.claims_are_sound.Goals as goal

pub returns : goal.returns
returns c = record { sound = tied_sound c.claims_give.ensures.gives; retained = logs_retain c.claims_give.ensures.gives }
