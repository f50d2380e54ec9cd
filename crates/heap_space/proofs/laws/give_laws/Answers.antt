use Rattle.heap_space.proofs.Giving.{last_back, given_back, slot_back, count_back, others_kept}
use Rattle.heap_space.proofs.laws.give_laws.Goals as goal

pub returns-clause-last : goal.returns-clause-last
returns-clause-last c = λ table place key lrsn header h lt whole. last_back table place key lrsn header h lt whole

pub returns-clause-given : goal.returns-clause-given
returns-clause-given c = λ table place key lrsn header h lt whole. given_back table place key lrsn header h lt whole

pub returns-clause-slot : goal.returns-clause-slot
returns-clause-slot c = λ table place key lrsn page h lt whole. slot_back table place key lrsn page h lt whole

pub returns-clause-count : goal.returns-clause-count
returns-clause-count c = λ table place key lrsn page h lt whole. count_back table place key lrsn page h lt whole

pub returns-clause-others : goal.returns-clause-others
returns-clause-others c = λ table place key lrsn page other h lt whole ne. others_kept table place key lrsn page other h lt whole ne
