use Rattle.std.proofs.Common.{sym, subst, slice_set, ℕ}
use Rattle.member_pool.specs.Counts.{AreCounted}
use Rattle.member_pool.proofs.Masks.{counted_none, counted_some, positive, positive_before}
use Rattle.member_pool.proofs.counts.SetCounts.take.Goals as goal

pub invariant_of-self : goal.invariant_of-self
invariant_of-self c =
    subst (λ (v : ℕ). AreCounted (slice_set c.self.inside.counts c.args.set v) c.remove.new.self) (sym c.if-left-eq0.true)
    (counted_none c.self.inside.counts c.self.inside.sets c.self.invariant c.args.set c.if-set-lt-SETS.true c.remove.new.self c.remove.ensures)

pub invariant_of-self-else-left-eq0 : goal.invariant_of-self-else-left-eq0
invariant_of-self-else-left-eq0 c =
    counted_some c.self.inside.counts c.self.inside.sets c.self.invariant c.args.set c.if-set-lt-SETS.true c.saturating_sub-left.result
    (positive _ c.if-left-eq0.false) (positive_before _ _ c.saturating_sub-left.ensures c.if-left-eq0.false)
