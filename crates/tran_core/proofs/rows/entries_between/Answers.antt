use Rattle.std.proofs.Common.{◌≡◌, ◌+◌, ◌++◌, List, arith, subst, sym}
use Rattle.index_leaf.specs.declared.layout.Entry.{Entry}
use Rattle.index_leaf.specs.Entries.{entries_of}
use Rattle.tran_core.specs.Looks.{between}
use Rattle.tran_core.proofs.Slots.{left, walk_end, walk_past, walk_next}
use Rattle.tran_core.proofs.rows.entries_between.Goals as goal

pub returns-in_default : goal.returns-in_default
returns-in_default c = walk_end c.args.page.now c.args.low c.args.high c.loop-at.at c.loop-at.entries.items c.loop-at.invariant c.in_default.ensures

pub loop-at-preserved : goal.loop-at-preserved
loop-at-preserved c =
    let P : List Entry → Type 0 = λ es. es ++ left c.args.low c.args.high (c.loop-at.at + 1) (entries_of c.args.page.now) ≡ between c.args.low c.args.high c.args.page.now in
    subst P (sym c.in_ok-keep_entry.ensures)
    (walk_next c.args.page.now c.args.low c.args.high c.loop-at.at c.in-Some.key c.in-Some.place c.loop-at.entries.items c.loop-at.invariant c.in-Some.ensures)

pub returns : goal.returns
returns c = walk_past c.args.page.now c.args.low c.args.high c.loop-at.at c.loop-at.entries.items c.loop-at.invariant (omega (arith, c.loop-at-test.false, c.count-at-end.ensures))
