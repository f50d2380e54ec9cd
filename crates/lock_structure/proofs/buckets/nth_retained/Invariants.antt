use Rattle.std.proofs.Common.{◌≡◌, ◌+◌, drop}
use Rattle.std.specs.Prelude.{slice_get}
use Rattle.lock_structure.specs.Buckets.{all_retained, retained_before}
use Rattle.lock_structure.proofs.buckets.nth_retained.Given as goal

abbrev pub invariant-loop-bucket : goal.invariant-loop-bucket
invariant-loop-bucket l =
    (slice_get (all_retained l.member (drop l.bucket l.chains)) l.left ≡ slice_get (all_retained l.member l.chains) l.at)
    × (l.left + retained_before l.member l.chains l.bucket ≡ l.at)
