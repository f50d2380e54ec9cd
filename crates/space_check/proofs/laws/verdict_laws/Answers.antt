use Rattle.space_check.proofs.Verdicts.{sound_is, unsound_is_not}
use Rattle.space_check.proofs.laws.verdict_laws.Goals as goal

pub returns-clause-sound : goal.returns-clause-sound
returns-clause-sound c = sound_is

pub returns-clause-unsound : goal.returns-clause-unsound
returns-clause-unsound c = unsound_is_not c.log_laws.ensures.told c.broken_laws.ensures
