use Rattle.fitting_records.proofs.Ranging.{search_starts, search_goes, search_ends}
use Rattle.fitting_records.proofs.ranges.search.Goals as goal

pub loop-init : goal.loop-init
loop-init g c = search_starts _ _ c.args.ends.now

pub loop-preserved : goal.loop-preserved
loop-preserved g c =
    search_goes _ _ _ _ _ _ c.args.ends.now c.loop.first c.sooner-first.result c.loop.from c.in-Some.next c.in_ok-range.range c.in_ok-seen.seen c.in_ok-range.ensures c.in-Some.is c.sooner-first.ensures c.loop.invariant c.in_ok-seen.ensures

pub returns-in-None : goal.returns-in-None
returns-in-None g c =
    search_ends _ _ _ _ _ _ c.args.ends.now c.loop.first c.sooner-first.result c.loop.from c.in_ok-range.range c.in_ok-seen.seen c.in_ok-range.ensures c.in-None.is c.sooner-first.ensures c.loop.invariant c.in_ok-seen.ensures
