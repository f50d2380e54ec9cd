use Rattle.lock_structure.proofs.Counts.{retained_room}
use Rattle.lock_structure.proofs.buckets.Buckets.retain.Goals as goal

pub invariant_of-self : goal.invariant_of-self
invariant_of-self c = rw c.retain_all.ensures (retained_room _ _ _ _ c.args.member c.self.invariant)
