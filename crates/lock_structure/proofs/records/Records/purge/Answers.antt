use Rattle.lock_structure.proofs.Order.{purged_order}
use Rattle.lock_structure.proofs.Hashed.{purged_hashed, purged_all}
use Rattle.lock_structure.proofs.records.Records.purge.Goals as goal

pub invariant_of-self : goal.invariant_of-self
invariant_of-self c = rw c.purge.ensures (
  purged_hashed c.self.inside.buckets.chains c.bucket_of-bucket.result c.args.member c.args.name.now c.bucket_of-bucket.ensures.place c.self.invariant.0,
  c.kept-self-inside.ensures c.self.inside.buckets.chains _ c.self.invariant.1,
)

pub returns-clause-records : goal.returns-clause-records
returns-clause-records c = rw (c.purge.ensures, ← c.self.view_is) (purged_all c.self.inside.buckets.chains c.bucket_of-bucket.result c.args.member c.args.name.now c.self.inside.buckets.records c.self.inside.buckets.pages c.bucket_of-bucket.ensures.place c.self.invariant.0)

pub returns-clause-order : goal.returns-clause-order
returns-clause-order c k = rw (c.purge.ensures, ← c.self.view_is) (purged_order c.self.inside.buckets.chains c.bucket_of-bucket.result c.args.member c.args.name.now k c.bucket_of-bucket.ensures.place c.self.invariant.0)
