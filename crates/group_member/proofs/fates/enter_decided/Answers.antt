use Rattle.std.proofs.Common.{◌≡◌, ℕ, ◌<◌, ◌∙◌, List, length, slice_index_or, ap, subst}
use Rattle.member_trans.specs.declared.fate.Owner.TheVariants as owner
use Rattle.member_marks.specs.State.{id_of}
use Rattle.group_member.specs.Entering.{CommitsOne}
use Rattle.group_member.proofs.Commits.{commits_more}
use Rattle.group_member.proofs.fates.enter_decided.Goals as goal

pub loop-slot-preserved : goal.loop-slot-preserved
loop-slot-preserved g c =
    let all : c.decided-slot-items.result.now ≡ c.args.resources.now.marks.trans.decided = c.decided-slot-items.ensures ∙ ap (λ marks. marks.trans.decided) c.marks.ensures in
    let within : c.loop-slot.slot-index < length c.args.resources.now.marks.trans.decided = subst (λ (slots : List ℕ). c.loop-slot.slot-index < length slots) all c.loop-slot-test.true in
    commits_more c.args.resources.now.marks c.args.resources.now.marks.trans.decided c.loop-slot.slot-index c.args.fates.now c.loop-slot.fates c.enter_commit.new.fates within c.loop-slot.invariant
    (subst (λ (slots : List ℕ). CommitsOne (id_of c.args.resources.now.marks (owner.Slot (slice_index_or slots c.loop-slot.slot-index 0))).number c.loop-slot.fates c.enter_commit.new.fates) all c.enter_commit.ensures)
