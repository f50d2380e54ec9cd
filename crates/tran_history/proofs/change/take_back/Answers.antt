use Rattle.tran_history.proofs.Undone.{one_undone}
use Rattle.tran_history.proofs.change.take_back.Goals as goal

pub loop-change-preserved : goal.loop-change-preserved
loop-change-preserved c =
    one_undone _ _ _ _ _ c.in-Some.change c.in-Some.ensures.items c.in_ok-restore.ensures c.loop-change.invariant
