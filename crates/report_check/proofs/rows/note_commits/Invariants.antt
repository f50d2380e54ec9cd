use Rattle.std.proofs.Common.{◌≡◌, ℕ, ◌||◌, take}
use Rattle.std.specs.BTreeSet as set
use Rattle.std.specs.Ordering.{nat_cmp}
use Rattle.ds_model.specs.Logs.{has_commit}
use Rattle.report_check.proofs.rows.note_commits.Given as goal

abbrev pub invariant-loop-item : goal.invariant-loop-item
invariant-loop-item l = (tran : ℕ) → set.contains nat_cmp l.trans tran ≡ (set.contains nat_cmp l.fn.trans tran || has_commit (take l.item-index l.records) tran)
