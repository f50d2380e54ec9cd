use Rattle.page_images.proofs.Written.{stamped, both, free, free_both}
use Rattle.page_images.proofs.written_laws.Goals as goal

pub returns-clause-stamped : goal.returns-clause-stamped
returns-clause-stamped c = λ id lrsn ps page. stamped id lrsn ps page

pub returns-clause-both : goal.returns-clause-both
returns-clause-both c = λ id lrsn ps qs page. both id lrsn ps qs page

pub returns-clause-free : goal.returns-clause-free
returns-clause-free c = λ id lrsn ps page h. free id lrsn ps page h

pub returns-clause-free_both : goal.returns-clause-free_both
returns-clause-free_both c = λ id ps qs h k. free_both id ps qs h k
