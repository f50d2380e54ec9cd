use Rattle.std.proofs.Common.{◌≡◌, ◌<◌, ◌+◌, arith, ◌∙◌, length, subst, []}
use Rattle.std.specs.Prelude.{None, drop}
use Rattle.std.proofs.lemmas.List.{get_or_default}
use Rattle.lock_manager.specs.Claims.{mode_in}
use Rattle.lock_manager.specs.Managers.{Book, claims_of}
use Rattle.lock_manager.proofs.Releases.{found_at, passed_at}
use Rattle.lock_manager.proofs.manager.LockManager.releasing_at.Goals as goal

pub interest_if_passed-requires-clause-only : goal.interest_if_passed-requires-clause-only
interest_if_passed-requires-clause-only c =
    let there : c.args.owner < length c.self.inside.holders.items = grind (arith, c.requires, c.self.view_is) in
    let P : Book → Type 0 = λ b. c.index.result.now ≡ claims_of b c.args.owner in
    let claims : c.index.result.now ≡ claims_of c.args.self.now c.args.owner = subst P c.self.view_is (c.index.ensures ∙ get_or_default c.self.inside.holders.items c.args.owner c.index.result.now [] there) in
    subst (λ z. mode_in (drop (c.loop-claim.passed + 1) z) c.in-Some.claim.name ≡ None) claims c.in-Some.ensures.only

pub returns-in-Some-interest_if_passed : goal.returns-in-Some-interest_if_passed
returns-in-Some-interest_if_passed c =
    let there : c.args.owner < length c.self.inside.holders.items = grind (arith, c.requires, c.self.view_is) in
    let P : Book → Type 0 = λ b. c.index.result.now ≡ claims_of b c.args.owner in
    let claims : c.index.result.now ≡ claims_of c.args.self.now c.args.owner = subst P c.self.view_is (c.index.ensures ∙ get_or_default c.self.inside.holders.items c.args.owner c.index.result.now [] there) in
    let inv = c.loop-claim.invariant in
    found_at c.args.self.now c.args.owner c.loop-claim.passed c.in-Some.claim c.index.result.now c.in-Some-interest_if_passed.interest claims c.in-Some.ensures.claim c.in-Some-interest_if_passed.ensures.0 c.in-Some-interest_if_passed.ensures.1 inv.0 inv.1

pub loop-claim-preserved : goal.loop-claim-preserved
loop-claim-preserved c =
    let there : c.args.owner < length c.self.inside.holders.items = grind (arith, c.requires, c.self.view_is) in
    let P : Book → Type 0 = λ b. c.index.result.now ≡ claims_of b c.args.owner in
    let claims : c.index.result.now ≡ claims_of c.args.self.now c.args.owner = subst P c.self.view_is (c.index.ensures ∙ get_or_default c.self.inside.holders.items c.args.owner c.index.result.now [] there) in
    let inv = c.loop-claim.invariant in
    passed_at c.args.self.now c.args.owner c.loop-claim.passed c.in-Some.claim c.index.result.now claims c.in-Some.ensures.claim c.in_default-interest_if_passed.ensures inv.0 inv.1
