use Rattle.std.proofs.Common.{◌≡◌, ◌≤◌, true, Some, arith}
use Rattle.std.specs.Prelude.{slice_get}
use Rattle.index_leaf.specs.Entries.{count_of, entries_of}
use Rattle.index_leaf.specs.Search.{pair_of}
use Rattle.table_pages.proofs.Nodes.{misfit_told, more_told, all_told}
use Rattle.table_pages.proofs.node.entries_fit.Goals as goal

pub returns-then-not-entry_fits : goal.returns-then-not-entry_fits
returns-then-not-entry_fits c =
    let at : Some (c.in-Some.key, c.in-Some.place) ≡ pair_of (slice_get (entries_of c.args.page.now) c.loop-n.n) = cc in
    misfit_told c.args.is_branch c.low_key-low.result c.high_key-high.result c.args.page.now c.loop-n.n c.in-Some.key c.in-Some.place c.entry_fits.result c.low_key-low.ensures c.high_key-high.ensures at
    c.entry_fits.ensures cc

pub loop-n-preserved : goal.loop-n-preserved
loop-n-preserved c =
    let fits : c.entry_fits.result ≡ true = cc in
    let at : Some (c.in-Some.key, c.in-Some.place) ≡ pair_of (slice_get (entries_of c.args.page.now) c.loop-n.n) = cc in
    more_told c.args.is_branch c.low_key-low.result c.high_key-high.result c.args.page.now c.loop-n.n c.in-Some.key c.in-Some.place c.entry_fits.result at c.entry_fits.ensures fits c.loop-n.invariant

pub returns : goal.returns
returns c =
    let le : count_of c.args.page.now ≤ c.loop-n.n = omega arith in
    all_told c.args.is_branch c.low_key-low.result c.high_key-high.result c.args.page.now c.loop-n.n c.low_key-low.ensures c.high_key-high.ensures le c.loop-n.invariant
