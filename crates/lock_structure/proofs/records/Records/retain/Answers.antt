use Rattle.lock_structure.proofs.Hashed.{retained_hashed, retained_all, flat_retained}
use Rattle.lock_structure.proofs.records.Records.retain.Goals as goal

pub invariant_of-self : goal.invariant_of-self
invariant_of-self c = rw c.retain.ensures (retained_hashed c.self.inside.buckets.chains c.args.member c.self.invariant.0, tt)

pub returns-clause-records : goal.returns-clause-records
returns-clause-records c = rw (c.retain.ensures, ← c.self.view_is) (retained_all c.self.inside.buckets.chains c.args.member c.self.inside.buckets.records c.self.inside.buckets.pages)

pub returns-clause-order : goal.returns-clause-order
returns-clause-order c = rw (c.retain.ensures, ← c.self.view_is) (flat_retained c.self.inside.buckets.chains c.args.member)
