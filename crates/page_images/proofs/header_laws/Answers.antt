use Rattle.page_images.proofs.Fronts.{fronts_agree, empty_read, not_zeros, zeros_are_zeros, zeros_whole, zeros_byte, zeros_number, header_read, kind_read, name_read}
use Rattle.page_images.proofs.header_laws.Goals as goal

pub returns-clause-agree : goal.returns-clause-agree
returns-clause-agree c = λ kind id. fronts_agree kind id

pub returns-clause-empty : goal.returns-clause-empty
returns-clause-empty c = λ id. empty_read id

pub returns-clause-written : goal.returns-clause-written
returns-clause-written c = λ page id kind h. not_zeros page id kind h

pub returns-clause-zeros : goal.returns-clause-zeros
returns-clause-zeros c = (zeros_are_zeros, zeros_whole, zeros_byte, zeros_number)

pub returns-clause-header : goal.returns-clause-header
returns-clause-header c = λ page id kind h stamped count may set number. header_read page id kind h stamped count may set number

pub returns-clause-kind : goal.returns-clause-kind
returns-clause-kind c = λ page id kind h. kind_read page id kind h

pub returns-clause-name : goal.returns-clause-name
returns-clause-name c = λ page id kind h set number. name_read page id kind h set number
