use Rattle.sound_appends.proofs.Checkpoints.{keeps_checkpoints}
use Rattle.sound_appends.proofs.Pages.{keeps_versions}
use Rattle.sound_appends.proofs.page_laws.Goals as goal

pub returns-clause-checkpoints : goal.returns-clause-checkpoints
returns-clause-checkpoints c = λ at logs after r h size d a. keeps_checkpoints at logs after r h size d a

pub returns-clause-versions : goal.returns-clause-versions
returns-clause-versions c = λ at logs after r h none v. keeps_versions c.turn_laws.ensures.behind at logs after r h none v
