use Rattle.lock_structure.proofs.Placed.{recorded_placed}
use Rattle.lock_structure.proofs.Order.{recorded_order}
use Rattle.std.proofs.Common.{subst, sym}
use Rattle.std.specs.Prelude.{not, ◌||◌, IsTrue}
use Rattle.lock_names.specs.Modes.{is_recorded}
use Rattle.lock_structure.specs.Records.{area_of, room_for}
use Rattle.lock_structure.specs.Buckets.{room_of}
use Rattle.lock_structure.proofs.Hashed.{recorded_hashed, recorded_all, room_all}
use Rattle.lock_structure.proofs.records.Records.enter.Goals as goal

pub enter-requires-clause-room : goal.enter-requires-clause-room
enter-requires-clause-room c = room_all c.self.inside.buckets.chains c.bucket_of-bucket.result c.args.member (area_of c.args.member c.args.name.now) (room_of c.self.inside.buckets (area_of c.args.member c.args.name.now)) c.args.name.now (not (is_recorded c.args.mode)) c.bucket_of-bucket.ensures.place c.self.invariant.0 (subst (λ b. IsTrue (not (is_recorded c.args.mode) || room_for b c.args.member c.args.name.now)) (sym c.self.view_is) c.requires)

pub invariant_of-self : goal.invariant_of-self
invariant_of-self c = rw c.enter.ensures (
  recorded_hashed c.self.inside.buckets.chains c.bucket_of-bucket.result c.args.member c.args.name.now c.args.mode c.bucket_of-bucket.ensures.place c.self.invariant.0,
  recorded_placed c.self.inside.cursor c.self.inside.buckets.chains c.bucket_of-bucket.result c.args.member c.args.name.now c.args.mode c.self.invariant.1,
)

pub returns-clause-records : goal.returns-clause-records
returns-clause-records c = rw (c.enter.ensures, ← c.self.view_is) (recorded_all c.self.inside.buckets.chains c.bucket_of-bucket.result c.args.member c.args.name.now c.args.mode c.self.inside.buckets.records c.self.inside.buckets.pages c.bucket_of-bucket.ensures.place c.self.invariant.0)

pub returns-clause-order : goal.returns-clause-order
returns-clause-order c k = rw (c.enter.ensures, ← c.self.view_is) (recorded_order c.self.inside.buckets.chains c.bucket_of-bucket.result c.args.member c.args.name.now c.args.mode k c.bucket_of-bucket.ensures.range)
