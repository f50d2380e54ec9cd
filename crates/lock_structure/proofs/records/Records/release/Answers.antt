use Rattle.lock_structure.proofs.Placed.{released_placed}
use Rattle.lock_structure.proofs.Order.{released_order}
use Rattle.lock_structure.proofs.Hashed.{released_hashed, released_all}
use Rattle.lock_structure.proofs.records.Records.release.Goals as goal

pub invariant_of-self : goal.invariant_of-self
invariant_of-self c = rw c.release.ensures (
  released_hashed c.self.inside.buckets.chains c.bucket_of-bucket.result c.args.member c.args.name.now c.bucket_of-bucket.ensures.place c.self.invariant.0,
  released_placed c.self.inside.cursor c.self.inside.buckets.chains c.bucket_of-bucket.result c.args.member c.args.name.now c.self.invariant.1,
)

pub returns-clause-records : goal.returns-clause-records
returns-clause-records c = rw (c.release.ensures, ← c.self.view_is) (released_all c.self.inside.buckets.chains c.bucket_of-bucket.result c.args.member c.args.name.now c.self.inside.buckets.records c.self.inside.buckets.pages c.bucket_of-bucket.ensures.place c.self.invariant.0)

pub returns-clause-order : goal.returns-clause-order
returns-clause-order c k = rw (c.release.ensures, ← c.self.view_is) (released_order c.self.inside.buckets.chains c.bucket_of-bucket.result c.args.member c.args.name.now k c.bucket_of-bucket.ensures.range)
