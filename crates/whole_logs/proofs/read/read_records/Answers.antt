use Rattle.whole_logs.proofs.Walking.{walked_on, walk_breaks}
use Rattle.whole_logs.proofs.read.read_records.Goals as goal

pub loop-records-preserved : goal.loop-records-preserved
loop-records-preserved c =
    let f = rw c.in-Whole.is at c.in_ok-found.ensures in
    let t = walked_on _ _ _ _ c.in-Whole.found c.in-Whole.length c.loop-records.invariant f.0 f.1 in
    rw (c.number-low.ensures.value, c.in_ok-push-in-Whole.ensures.ok) t

pub returns-in-Broken : goal.returns-in-Broken
returns-in-Broken c = walk_breaks _ _ _ _ c.loop-records.invariant (rw c.in-Broken.is at c.in_ok-found.ensures)
