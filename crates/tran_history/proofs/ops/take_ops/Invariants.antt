use Rattle.std.proofs.Common.{◌≡◌, ◌++◌, drop}
use Rattle.ds_model.specs.Effect.{after_ops, reads_of}
use Rattle.tran_history.specs.Changes.{undone}
use Rattle.tran_history.proofs.ops.take_ops.Given as goal

abbrev pub invariant-loop-op : goal.invariant-loop-op
invariant-loop-op l =
    (after_ops l.rows (drop l.op-index l.ops) ≡ after_ops l.fn.rows l.ops)
    × (l.reads ++ reads_of l.rows (drop l.op-index l.ops) ≡ l.fn.reads ++ reads_of l.fn.rows l.ops)
    × (undone l.rows l.changes.items ≡ undone l.fn.rows l.fn.changes.items)
