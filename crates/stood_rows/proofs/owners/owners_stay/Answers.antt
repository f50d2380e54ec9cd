use Rattle.std.proofs.Common.{◌≡◌, true, false, refl, arith}
use Rattle.stood_rows.specs.Owners.{owner, is_kept}
use Rattle.stood_rows.proofs.Owned.{more_stay, one_leaves}
use Rattle.stood_rows.proofs.owners.owners_stay.Goals as goal

pub returns-then-not-kept : goal.returns-then-not-kept
returns-then-not-kept c =
    let lost : is_kept (owner c.args.before.now c.loop-slot.slot) (owner c.args.behind.now c.loop-slot.slot) ≡ false = cc in (
      λ t. absurd cc,
      λ h. absurd (one_leaves c.args.before.now c.args.behind.now c.loop-slot.slot (omega arith) lost h),
    )

pub loop-slot-preserved : goal.loop-slot-preserved
loop-slot-preserved c =
    let kept : is_kept (owner c.args.before.now c.loop-slot.slot) (owner c.args.behind.now c.loop-slot.slot) ≡ true = cc in
    more_stay c.args.before.now c.args.behind.now c.loop-slot.slot c.loop-slot.invariant kept

pub returns : goal.returns
returns c = (λ t slot key lt is. c.loop-slot.invariant slot key (omega (arith, lt)) is, λ h. refl)
