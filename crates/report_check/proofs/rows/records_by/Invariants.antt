use Rattle.std.proofs.Common.{◌≡◌, take, map}
use Rattle.std.specs.BTreeSet as set
use Rattle.std.specs.Ordering.{nat_cmp}
use Rattle.report_check.specs.Records.{all_records, chosen}
use Rattle.report_check.proofs.Keeping.{seen}
use Rattle.report_check.proofs.rows.records_by.Given as goal

abbrev pub invariant-loop-log : goal.invariant-loop-log
invariant-loop-log l = map seen l.kept.items ≡ chosen (set.contains nat_cmp l.trans) (all_records (take l.log-index l.logs))
