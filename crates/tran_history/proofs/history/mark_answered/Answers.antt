use Rattle.std.proofs.Common.{ap}
use Rattle.tran_history.specs.Histories.{answered_fate}
use Rattle.tran_history.proofs.Placing.{mark, unmarked}
use Rattle.tran_history.proofs.history.mark_answered.Goals as goal

pub returns-in-Committed : goal.returns-in-Committed
returns-in-Committed c = mark c.args.entries.now c.args.at c.index-entries-at.result _ c.requires (ap answered_fate c.in-Committed.is)

pub returns-in_default : goal.returns-in_default
returns-in_default c = mark c.args.entries.now c.args.at c.index-entries-at.result _ c.requires (unmarked _ c.in_default.not-Committed)
