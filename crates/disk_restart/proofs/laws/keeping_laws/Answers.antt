use Rattle.disk_restart.proofs.Kept.{lasting_read, stays_kept, same_kept, goes_on_kept}
use Rattle.disk_restart.proofs.laws.keeping_laws.Goals as goal

pub returns-clause-itself : goal.returns-clause-itself
returns-clause-itself c = λ a. stays_kept a

pub returns-clause-same : goal.returns-clause-same
returns-clause-same c = λ a b same. same_kept a b same

pub returns-clause-on : goal.returns-clause-on
returns-clause-on c = λ a b e first second. goes_on_kept a b e first second

pub returns-clause-read : goal.returns-clause-read
returns-clause-read c = λ bytes log is. lasting_read bytes log is
