use Rattle.sound_plans.proofs.Opens.{opens_tell, some_is_undone}
use Rattle.sound_plans.proofs.Ended.{ends_where_nothing_is_left}
use Rattle.sound_plans.proofs.open_laws.Goals as goal

pub returns-clause-tell : goal.returns-clause-tell
returns-clause-tell c = opens_tell

pub returns-clause-undone : goal.returns-clause-undone
returns-clause-undone c = λ records t a f o none. some_is_undone records t a f o none

pub returns-clause-ended : goal.returns-clause-ended
returns-clause-ended c = ends_where_nothing_is_left
