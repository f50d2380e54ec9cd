use Rattle.std.proofs.Common.{◌≡◌, arith, ap, ◌∙◌, length}
use Rattle.std.proofs.lemmas.List.{length-set}
use Rattle.lock_manager.specs.Managers.{claims_of, with_claims}
use Rattle.lock_manager.proofs.Releases.{walked}
use Rattle.lock_manager.proofs.manager.LockManager.drop_at.Goals as goal

pub loop-claim-preserved : goal.loop-claim-preserved
loop-claim-preserved c =
    let inv = c.loop-claim.invariant in
    let went = walked c.args.self.now c.loop-claim.self c.give_up_first.new.self c.args.owner c.in-Some._claim c.requires inv.1 c.in-Some.ensures.claim c.in-Some.ensures.rest inv.2 in
    let owners = ap (λ z. length z.holders) went in
    let same = length-set c.args.self.now.holders c.args.owner (claims_of c.give_up_first.new.self c.args.owner) in
    let fewer = ap (λ z. length z) c.in-Some.ensures.claim in
    (omega (arith, owners, same, c.requires), went, omega (arith, fewer, inv.2))

pub returns-clause-left : goal.returns-clause-left
returns-clause-left c =
    let inv = c.loop-claim.invariant in
    c.in_default.ensures.claim.1 ∙ inv.1 ∙ ap (λ z. with_claims c.args.self.now c.args.owner z) c.in_default.ensures.claim.0
