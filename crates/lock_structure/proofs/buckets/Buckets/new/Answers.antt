use Rattle.lock_structure.proofs.Counts.{empty_room}
use Rattle.lock_structure.proofs.buckets.Buckets.new.Goals as goal

pub invariant_of-result : goal.invariant_of-result
invariant_of-result c = empty_room c.in_ok-chains.chains.items c.in_ok-areas.areas.items c.args.buckets c.args.records c.args.pages c.in_ok-chains.ensures c.in_ok-areas.ensures.count c.in_ok-areas.ensures.free
