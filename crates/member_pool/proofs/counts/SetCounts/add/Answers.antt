use Rattle.member_pool.proofs.Masks.{counted_more}
use Rattle.member_pool.proofs.counts.SetCounts.add.Goals as goal

pub invariant_of-self : goal.invariant_of-self
invariant_of-self c = counted_more c.self.inside.counts c.self.inside.sets c.self.invariant c.args.set c.if-set-lt-SETS.true _ c.insert.new.self c.insert.ensures
