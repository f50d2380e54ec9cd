use Rattle.std.proofs.Common.{drop}
use Rattle.tran_history.proofs.Replaying.{GoesOn}
use Rattle.tran_history.proofs.one_thread.replay_on.Given as goal

abbrev pub invariant-loop-entry : goal.invariant-loop-entry
invariant-loop-entry l = GoesOn l.fn.rows l.rows l.entries (drop l.entry-index l.entries)
