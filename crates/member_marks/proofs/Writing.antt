-- One page set after the other.
use Rattle.std.proofs.Common.{◌≡◌, ℕ, ◌+◌, ◌-◌, ◌<◌, refl, arith, suc, if◌then◌else◌}
use Rattle.std.specs.Prelude.{◌&&◌, Some, None}
use Rattle.member_pool.specs.Heads.{HeadState, has_changed}
use Rattle.member_trans.specs.declared.fate.Owner.{Owner}
use Rattle.member_trans.specs.Trans.{TransState, has_set}
use Rattle.member_marks.specs.Frames.{first_changed}

pub changed_none : (h : HeadState) (t : TransState) (o : Owner) (k : ℕ) → first_changed h t o k 0 ≡ None
unfolding first_changed
changed_none h t o k = refl

one_more : (h : HeadState) (t : TransState) (o : Owner) (k n m : ℕ) → m ≡ suc n
    → first_changed h t o k m ≡ (if has_set t o k && has_changed h k then Some k else first_changed h t o (k + 1) n)
unfolding first_changed
one_more h t o k n m e = rw e refl

pub changed_step : (h : HeadState) (t : TransState) (o : Owner) (k e : ℕ) → k < e
    → first_changed h t o k (e - k) ≡ (if has_set t o k && has_changed h k then Some k else first_changed h t o (k + 1) (e - (k + 1)))
changed_step h t o k e l = one_more h t o k (e - (k + 1)) (e - k) (omega arith)
