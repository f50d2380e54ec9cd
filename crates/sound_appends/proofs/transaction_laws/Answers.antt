use Rattle.sound_appends.proofs.Fitting.{keeps_transactions}
use Rattle.sound_appends.proofs.Open.{keeps_numbers}
use Rattle.sound_appends.proofs.transaction_laws.Goals as goal

pub returns-clause-transactions : goal.returns-clause-transactions
returns-clause-transactions c = λ logs after r h t. keeps_transactions logs after r h t

pub returns-clause-numbers : goal.returns-clause-numbers
returns-clause-numbers c = λ logs after r h t n. keeps_numbers logs after r h t n
