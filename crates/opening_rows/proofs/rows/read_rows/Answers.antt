use Rattle.std.specs.BTreeSet as set
use Rattle.std.specs.Ordering.{nat_cmp}
use Rattle.opening_rows.proofs.RowsTold.{none_in, rows_once, rows_again}
use Rattle.opening_rows.proofs.rows.read_rows.Goals as goal

pub returns-then-is_empty-clause-rows : goal.returns-then-is_empty-clause-rows
returns-then-is_empty-clause-rows g c =
    rows_once _ _ _ _ c.args.all.now.ends.items (set.contains nat_cmp c.args.all.now.pending) (set.contains nat_cmp c.new-none.result) c.in_ok-first.first _ _ _ c.in_ok-first.ensures
    (none_in c.new-none.result c.in_ok-first.first.found c.new-none.ensures.empty (c.is_empty.ensures.0 c.if-is_empty.true)) c.in_ok-into_rows.ensures.rows

pub returns-clause-rows : goal.returns-clause-rows
returns-clause-rows g c =
    rows_again _ _ _ _ _ _ c.args.all.now.ends.items (set.contains nat_cmp c.args.all.now.pending) (set.contains nat_cmp c.new-none.result) c.in_ok-first.first c.in_ok-again.again _ _ _ _
    c.in_ok-first.ensures c.in_ok-again.ensures c.in_ok-into_rows-2.ensures.rows
