use Rattle.std.proofs.Common.{◌≡◌, ◌+◌, ◌-◌, ◌∙◌, sym, subst, length, get_or, arith}
use Rattle.std.specs.Prelude.{slice_get, Some}
use Rattle.lock_structure.specs.Records.{retained_of}
use Rattle.lock_structure.specs.Buckets.{retained_before}
use Rattle.lock_structure.proofs.Retained.{get_here, get_later}
use Rattle.lock_structure.proofs.Placed.{from_bucket, next_before}
use Rattle.lock_structure.proofs.buckets.nth_retained.Goals as goal

pub loop-bucket-init : goal.loop-bucket-init
loop-bucket-init c =
    let start = c.args.start in
    let left = c.args.at - start.before in
    let e : left + retained_before start.member c.args.chains.now start.bucket ≡ c.args.at = omega (arith, c.requires.placed.1, c.requires.before) in
    (from_bucket start.member c.args.chains.now start.bucket left c.args.at e, e)

pub returns-in-Ok-clause-found : goal.returns-in-Ok-clause-found
returns-in-Ok-clause-found c =
    let m = c.args.start.member in
    sym (get_here c.args.chains.now c.loop-bucket.bucket m c.loop-bucket.left c.index-chains-bucket.result c.in-Ok.found c.loop-bucket-test.true (subst (λ z. slice_get (retained_of m z) c.loop-bucket.left ≡ Some c.in-Ok.found) c.index-chains-bucket.is c.in-Ok.ensures.found))
    ∙ c.loop-bucket.invariant.0

pub loop-bucket-preserved : goal.loop-bucket-preserved
loop-bucket-preserved c =
    let m = c.args.start.member in
    let cs = c.args.chains.now in
    let at = c.loop-bucket.bucket in
    let more : c.in-Err.more + length (retained_of m (get_or cs at c.index-chains-bucket.result)) ≡ c.loop-bucket.left = subst (λ z. c.in-Err.more + length (retained_of m z) ≡ c.loop-bucket.left) c.index-chains-bucket.is c.in-Err.ensures.more in
    let next = next_before m cs at c.index-chains-bucket.result c.loop-bucket-test.true in (
      sym (get_later cs at m c.in-Err.more c.loop-bucket.left c.index-chains-bucket.result c.loop-bucket-test.true more) ∙ c.loop-bucket.invariant.0,
      omega (arith, more, next, c.loop-bucket.invariant.1),
    )
