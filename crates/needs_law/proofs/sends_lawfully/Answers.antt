use Rattle.needs_law.proofs.Laws.{lawful}
use Rattle.needs_law.proofs.sends_lawfully.Goals as goal

pub returns : goal.returns
returns c = lawful
