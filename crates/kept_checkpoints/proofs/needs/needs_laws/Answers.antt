use Rattle.kept_checkpoints.proofs.Meets.{are_met, they_tell}
use Rattle.kept_checkpoints.proofs.needs.needs_laws.Goals as goal

pub returns-clause-met : goal.returns-clause-met
returns-clause-met c = λ at logs h. are_met at logs h

pub returns-clause-tell : goal.returns-clause-tell
returns-clause-tell c = λ at logs o h. they_tell at logs o h
