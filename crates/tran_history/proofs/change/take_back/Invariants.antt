use Rattle.std.proofs.Common.{◌≡◌, vec_len}
use Rattle.tran_history.specs.Changes.{undone}
use Rattle.tran_history.proofs.change.take_back.Given as goal

abbrev pub invariant-loop-change : goal.invariant-loop-change
invariant-loop-change l = undone l.rows l.changes.items ≡ undone l.fn.rows l.fn.changes.items

abbrev pub decreases-loop-change : goal.decreases-loop-change
decreases-loop-change l = vec_len l.changes
