use Rattle.std.proofs.Common.{◌≡◌, true, false, arith, ap, ◌∙◌, length}
use Rattle.std.specs.Prelude.{Some}
use Rattle.std.proofs.lemmas.List.{length-set}
use Rattle.lock_manager.specs.Holders.{is_held}
use Rattle.lock_manager.specs.Managers.{claims_of}
use Rattle.lock_manager.proofs.Releases.{walked, found, passed, over}
use Rattle.lock_manager.proofs.manager.LockManager.release_at.Goals as goal

pub returns-clause-left : goal.returns-clause-left
returns-clause-left c =
    let inv = c.loop-claim.invariant in
    c.in_default.ensures.claim.1 ∙ over c.args.self.now c.loop-claim.self c.args.owner inv.1 c.in_default.ensures.claim.0 inv.4

pub loop-claim-preserved : goal.loop-claim-preserved
loop-claim-preserved c =
    let inv = c.loop-claim.invariant in
    let held : is_held c.give_up_first.new.self.holders c.in-Some.claim.name ≡ true = c.in_default-interest_if_freed.ensures in
    let went = walked c.args.self.now c.loop-claim.self c.give_up_first.new.self c.args.owner c.in-Some.claim c.requires inv.1 c.in-Some.ensures.claim c.in-Some.ensures.rest inv.2 in
    let rest = passed c.args.self.now c.give_up_first.new.self c.args.owner c.in-Some.claim (claims_of c.loop-claim.self c.args.owner) went c.in-Some.ensures.claim held inv.3 inv.4 in
    let owners = ap (λ z. length z.holders) went in
    let same = length-set c.args.self.now.holders c.args.owner (claims_of c.give_up_first.new.self c.args.owner) in
    let fewer = ap (λ z. length z) c.in-Some.ensures.claim in
    (omega (arith, owners, same, c.requires), went, omega (arith, fewer, inv.2), rest.0, rest.1)

pub returns-in-Some-interest_if_freed-clause-told : goal.returns-in-Some-interest_if_freed-clause-told
returns-in-Some-interest_if_freed-clause-told c =
    let inv = c.loop-claim.invariant in
    let free : is_held c.give_up_first.new.self.holders c.in-Some.claim.name ≡ false = c.in-Some-interest_if_freed.ensures.0 in
    let went = walked c.args.self.now c.loop-claim.self c.give_up_first.new.self c.args.owner c.in-Some.claim c.requires inv.1 c.in-Some.ensures.claim c.in-Some.ensures.rest inv.2 in
    let it = found c.args.self.now c.give_up_first.new.self c.args.owner c.in-Some.claim (claims_of c.loop-claim.self c.args.owner) went c.in-Some.ensures.claim free inv.3 inv.4 in
    ap (λ z. Some (c.in-Some.claim.name, z)) c.in-Some-interest_if_freed.ensures.1 ∙ it.0

pub returns-in-Some-interest_if_freed-clause-left : goal.returns-in-Some-interest_if_freed-clause-left
returns-in-Some-interest_if_freed-clause-left c =
    let inv = c.loop-claim.invariant in
    let free : is_held c.give_up_first.new.self.holders c.in-Some.claim.name ≡ false = c.in-Some-interest_if_freed.ensures.0 in
    let went = walked c.args.self.now c.loop-claim.self c.give_up_first.new.self c.args.owner c.in-Some.claim c.requires inv.1 c.in-Some.ensures.claim c.in-Some.ensures.rest inv.2 in
    let it = found c.args.self.now c.give_up_first.new.self c.args.owner c.in-Some.claim (claims_of c.loop-claim.self c.args.owner) went c.in-Some.ensures.claim free inv.3 inv.4 in
    it.1
