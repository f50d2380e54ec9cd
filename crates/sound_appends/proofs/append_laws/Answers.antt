use Rattle.std.proofs.Common.{ℕ, List, [], ◌∷◌, sym, subst}
use Rattle.ds_model.specs.declared.log.LogRecord.{LogRecord}
use Rattle.log_record.specs.declared.log.Log.{Log}
use Rattle.sound_appends.specs.Appends.{AppendsAll}
use Rattle.sound_appends.specs.Laws.{KeepsTransactions, KeepsTurns, KeepsNumbers, AreSoundLogs}
use Rattle.sound_appends.proofs.Same.{same_keep}
use Rattle.sound_appends.proofs.append_laws.Goals as goal

all_keep : KeepsTransactions → KeepsTurns → KeepsNumbers → (writes : List (ℕ × LogRecord)) (logs after : List Log) → AppendsAll logs writes after → AreSoundLogs logs → AreSoundLogs after
all_keep t u n [] logs after h s = subst AreSoundLogs (sym h) s
all_keep t u n (w ∷ ws) logs after h s = all_keep t u n ws h.0 after h.3 (record {
  transactions = t logs h.0 w.1 h.1 s.transactions;
  turns = u logs h.0 w.1 h.1 s.turns;
  numbers = n logs h.0 w.1 h.1 s.transactions s.numbers;
})

pub returns-clause-all : goal.returns-clause-all
returns-clause-all c = all_keep c.transaction_laws.ensures.transactions c.turn_laws.ensures.turns c.transaction_laws.ensures.numbers

pub returns-clause-same : goal.returns-clause-same
returns-clause-same c = λ logs others e h. same_keep logs others e h
