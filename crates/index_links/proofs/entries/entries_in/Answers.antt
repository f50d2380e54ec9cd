use Rattle.std.proofs.Common.{◌≡◌, ◌≤◌, Some, ◌∙◌, arith}
use Rattle.std.specs.Prelude.{slice_get}
use Rattle.index_leaf.specs.Entries.{count_of, entries_of}
use Rattle.index_leaf.specs.Search.{pair_of}
use Rattle.index_links.proofs.Found.{read_more, read_all}
use Rattle.index_links.proofs.entries.entries_in.Goals as goal

pub loop-n-preserved : goal.loop-n-preserved
loop-n-preserved c =
    let at : Some (c.in-Some.key, c.in-Some.place) ≡ pair_of (slice_get (entries_of c.args.page.now) c.loop-n.n) = cc in
    c.in_ok-push.ensures.items ∙ read_more c.args.page.now c.loop-n.entries.items c.loop-n.n c.in-Some.key c.in-Some.place c.loop-n.invariant at

pub returns : goal.returns
returns c =
    let le : count_of c.args.page.now ≤ c.loop-n.n = omega arith in
    read_all c.args.page.now c.loop-n.entries.items c.loop-n.n c.loop-n.invariant le
