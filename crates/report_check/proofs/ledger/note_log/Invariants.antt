use Rattle.std.proofs.Common.{◌≡◌, ℕ, [], ◌++◌, take, eqb, cond}
use Rattle.report_check.specs.Commits.{of_tran}
use Rattle.report_check.specs.Ledgers.{held}
use Rattle.report_check.proofs.ledger.note_log.Given as goal

abbrev pub invariant-loop-item : goal.invariant-loop-item
invariant-loop-item l = (p t : ℕ) → held l.ledger p t ≡ held l.fn.ledger p t ++ cond (eqb l.place p) (of_tran t (take l.item-index l.records)) []
