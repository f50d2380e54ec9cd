use Rattle.std.proofs.Common.{◌≡◌, ◌+◌, List, [], ◌∷◌, ◌++◌, drop, Some, None, sym, ap, ◌∙◌, append_assoc, arith}
use Rattle.std.proofs.lemmas.List.{append-nil}
use Rattle.member_trans.specs.declared.fate.Owner.{Owner}
use Rattle.member_trans.specs.declared.fate.Owner.TheVariants as owner
use Rattle.member_marks.specs.Rollbacks.{postponed_at}
use Rattle.claim_sights.specs.Grips.{or_end, rollback_owners}
use Rattle.claim_sights.proofs.Slots.{rollbacks_at}
use Rattle.claim_sights.proofs.grips.put_rollbacks.Goals as goal

pub returns-in_default : goal.returns-in_default
returns-in_default c =
    let marks = c.args.marks.now in
    let ts = c.args.marks.now.trans.rollbacks in
    let none : postponed_at marks c.loop-at.at ≡ None = sym c.postponed.ensures ∙ c.in_default.is in
    let over : rollback_owners marks (drop c.loop-at.at ts) ≡ [] = rollbacks_at marks ts c.loop-at.at ∙ ap (λ w. or_end w (rollback_owners marks (drop (c.loop-at.at + 1) ts))) none in
    sym (append-nil c.loop-at.owners.items) ∙ (ap (λ (rest : List Owner). c.loop-at.owners.items ++ rest) (sym over) ∙ c.loop-at.invariant)

pub loop-at-preserved : goal.loop-at-preserved
loop-at-preserved c =
    let marks = c.args.marks.now in
    let ts = c.args.marks.now.trans.rollbacks in
    let rest = rollback_owners c.args.marks.now (drop (c.loop-at.at + 1) c.args.marks.now.trans.rollbacks) in
    let some : postponed_at marks c.loop-at.at ≡ Some (c.in-Some.id, c.in-Some.field-0-1) = sym c.postponed.ensures ∙ c.in-Some.is in
    let here : rollback_owners marks (drop c.loop-at.at ts) ≡ owner.Rollback c.in-Some.id ∷ rest = rollbacks_at marks ts c.loop-at.at ∙ ap (λ w. or_end w rest) some in
    let pushed : c.push.new.self.items ≡ c.loop-at.owners.items ++ owner.Rollback c.in-Some.id ∷ [] = grind (arith, c.in-Some.id-is) in
    ap (λ (owners : List Owner). owners ++ rest) pushed
    ∙ (append_assoc c.loop-at.owners.items (owner.Rollback c.in-Some.id ∷ []) rest ∙ (ap (λ (owners : List Owner). c.loop-at.owners.items ++ owners) (sym here) ∙ c.loop-at.invariant))
