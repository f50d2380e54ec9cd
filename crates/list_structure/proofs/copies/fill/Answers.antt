use Rattle.std.proofs.Common.{◌≡◌, ◌+◌, ◌++◌, replicate, drop, slice_set}
use Rattle.list_structure.proofs.Filling.{fill_more}
use Rattle.list_structure.proofs.copies.fill.Goals as goal

pub loop-place-preserved : goal.loop-place-preserved
loop-place-preserved g c =
    let at = c.loop-place.place in
    let v = c.args.value in
    let old = c.args.all.now in
    let now : slice_set c.loop-place.all at v ≡ replicate (at + 1) v ++ drop (at + 1) old = rw (c.loop-place.invariant) (fill_more v old at c.loop-place-test.true) in
    now
