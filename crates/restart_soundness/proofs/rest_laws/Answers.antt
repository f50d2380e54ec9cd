use Rattle.restart_soundness.proofs.Closes.{rests_close}
use Rattle.restart_soundness.proofs.rest_laws.Goals as goal

pub returns : goal.returns
returns c = rests_close (record { reads = c.log_laws.ensures.sound; spell = c.appends_tell.ensures.spell; allowed = c.rests_tell.ensures.allowed; both = c.both_tell.ensures })
