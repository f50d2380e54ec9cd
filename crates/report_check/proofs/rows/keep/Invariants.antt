use Rattle.std.proofs.Common.{◌≡◌, ◌++◌, take, map}
use Rattle.std.specs.BTreeSet as set
use Rattle.std.specs.Ordering.{nat_cmp}
use Rattle.report_check.specs.Records.{chosen}
use Rattle.report_check.proofs.Keeping.{seen}
use Rattle.report_check.proofs.rows.keep.Given as goal

abbrev pub invariant-loop-item : goal.invariant-loop-item
invariant-loop-item l = map seen l.kept.items ≡ map seen l.fn.kept.items ++ chosen (set.contains nat_cmp l.trans) (take l.item-index l.records)
