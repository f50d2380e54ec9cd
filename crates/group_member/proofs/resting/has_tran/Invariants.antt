use Rattle.std.proofs.Common.{◌≡◌, ℕ, ◌≤◌, true}
use Rattle.member_trans.specs.Trans.{is_free}
use Rattle.member_marks.specs.State.{slot_tran}
use Rattle.group_member.proofs.resting.has_tran.Given as goal

abbrev pub invariant-loop-before : goal.invariant-loop-before
invariant-loop-before l = (slot : ℕ) → 1 ≤ slot → slot ≤ l.before → is_free (slot_tran l.marks slot).stage ≡ true
