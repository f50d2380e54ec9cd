use Rattle.sound_plans.proofs.Closings.{closings_append}
use Rattle.sound_plans.proofs.closing_laws.Goals as goal

pub returns : goal.returns
returns c = closings_append
