use Rattle.sound_appends.proofs.Behind.{stands_behind, keeps_turns}
use Rattle.sound_appends.proofs.turn_laws.Goals as goal

pub returns-clause-behind : goal.returns-clause-behind
returns-clause-behind c = λ logs after r h. stands_behind logs after r h

pub returns-clause-turns : goal.returns-clause-turns
returns-clause-turns c = λ logs after r h t. keeps_turns logs after r h t
