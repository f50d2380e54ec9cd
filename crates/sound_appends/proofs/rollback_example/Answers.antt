use Rattle.sound_appends.proofs.Example.{rolls_back}
use Rattle.sound_appends.proofs.rollback_example.Goals as goal

pub returns : goal.returns
returns c = rolls_back
