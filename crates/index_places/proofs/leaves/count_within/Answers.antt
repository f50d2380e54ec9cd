use Rattle.std.proofs.Common.{length, sym, ◌∙◌}
use Rattle.index_leaf.specs.Entries.{high_of}
use Rattle.index_places.proofs.Ranges.{beyond_high}
use Rattle.index_places.proofs.leaves.count_within.Goals as goal

pub returns-in-Some-clause-beyond : goal.returns-in-Some-clause-beyond
returns-in-Some-clause-beyond c =
    beyond_high (high_of c.args.page.now) c.in-Some.high c.count_below.result (length c.args.given.now) c.args.given.now (sym c.high_key.ensures ∙ c.in-Some.is) c.count_below.ensures.point.1
