use Rattle.page_images.proofs.Parts.{step_whole, step_put, step_kept, number_of_part, stamp_read}
use Rattle.page_images.proofs.part_laws.Goals as goal

pub returns-clause-whole : goal.returns-clause-whole
returns-clause-whole c = λ lrsn page p h. step_whole lrsn page p h

pub returns-clause-put : goal.returns-clause-put
returns-clause-put c = λ lrsn page p h free. step_put lrsn page p h free

pub returns-clause-kept : goal.returns-clause-kept
returns-clause-kept c = λ lrsn page p at width h free apart. step_kept lrsn page p at width h free apart

pub returns-clause-number : goal.returns-clause-number
returns-clause-number c = λ page at width. number_of_part page at width

pub returns-clause-stamp : goal.returns-clause-stamp
returns-clause-stamp c = λ lrsn page h lt. stamp_read lrsn page h lt
