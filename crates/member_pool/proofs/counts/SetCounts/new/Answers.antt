use Rattle.member_pool.proofs.Masks.{counted_new}
use Rattle.member_pool.proofs.counts.SetCounts.new.Goals as goal

pub invariant_of-result : goal.invariant_of-result
invariant_of-result c = counted_new _ _ c.no_counts.ensures c.none.ensures.sets
