use Rattle.std.proofs.Common.{◌≡◌, ℕ, take}
use Rattle.std.specs.BTreeSet as set
use Rattle.std.specs.Ordering.{nat_cmp}
use Rattle.ds_model.specs.Logs.{has_commit}
use Rattle.report_check.specs.Records.{all_records}
use Rattle.report_check.proofs.rows.committed.Given as goal

abbrev pub invariant-loop-log : goal.invariant-loop-log
invariant-loop-log l = (tran : ℕ) → set.contains nat_cmp l.trans tran ≡ has_commit (all_records (take l.log-index l.logs)) tran
