use Rattle.heap_space.proofs.Images.{read_back, allowed}
use Rattle.heap_space.proofs.laws.image_laws.Goals as goal

pub returns-clause-read : goal.returns-clause-read
returns-clause-read c = λ key value lt. read_back key value lt

pub returns-clause-allowed : goal.returns-clause-allowed
returns-clause-allowed c = λ page slot key value h there. allowed page slot key value h there
