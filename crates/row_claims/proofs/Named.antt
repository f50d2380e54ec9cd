-- The name of an owner's transaction is that of its first record.
use Rattle.std.proofs.Common.{◌≡◌, ℕ, zero, suc, ◌+◌, ◌≤◌, refl, sym, ◌∙◌, ap, subst, arith, Bool, true, false, List, [], ◌∷◌, Option, Some, None}
use Rattle.std.specs.Prelude.{◌-◌, ◌==◌, if◌then◌else◌, slice_index_or}
use Rattle.std.proofs.lemmas.Bool.{eqb-true}
use Rattle.member_trans.specs.declared.fate.Owner.{Owner}
use Rattle.member_trans.specs.declared.fate.Owner.TheVariants as owner
use Rattle.member_trans.specs.Trans.{TransState, TranState, free_tran, is_undoing, place_in, place_of, rollback_at}
use Rattle.member_marks.specs.State.{MarksState, tran_of}
use Rattle.strict_locking.specs.Rows.{IsTaken, name_of}

some_is : (a b : ℕ) → Some a ≡ Some b → a ≡ b
some_is a b e = cc

none_some : (k : ℕ) → None ≡ Some k → ⊥
none_some k e = cc

place_from : (rs : List TranState) (n id k : ℕ) → place_in rs n id ≡ Some k → n ≤ k
place_from [] n id k e = absurd (none_some k e)
place_from (r ∷ rs) n id k e = by (r.first == id) (place_from rs (n + 1) id k) e
  where
    by : (b : Bool) → (place_in rs (n + 1) id ≡ Some k → n + 1 ≤ k) → (if b then Some n else place_in rs (n + 1) id) ≡ Some k → n ≤ k
    by true rest h = (let same = some_is n k h in omega (arith, same))
    by false rest h = (let le = rest h in omega (arith, le))

first_at : (rs : List TranState) (n id k : ℕ) → place_in rs n id ≡ Some k → (slice_index_or rs (k - n) free_tran).first ≡ id
first_at [] n id k e = absurd (none_some k e)
first_at (r ∷ rs) n id k e = by (r.first == id) refl (first_at rs (n + 1) id k) e
  where
    here : n ≡ k → k - n ≡ 0
    here same = omega (arith, same)

    behind : n + 1 ≤ k → k - n ≡ suc (k - (n + 1))
    behind le = omega (arith, le)

    by : (b : Bool) → (r.first == id) ≡ b → (place_in rs (n + 1) id ≡ Some k → (slice_index_or rs (k - (n + 1)) free_tran).first ≡ id) → (if b then Some n else place_in rs (n + 1) id) ≡ Some k
        → (slice_index_or (r ∷ rs) (k - n) free_tran).first ≡ id
    by true same rest h = ap (λ z. (slice_index_or (r ∷ rs) z free_tran).first) (here (some_is n k h)) ∙ eqb-true r.first id same
    by false other rest h = ap (λ z. (slice_index_or (r ∷ rs) z free_tran).first) (behind (place_from rs (n + 1) id k h)) ∙ rest h

found_first : (t : TransState) (id : ℕ) (o : Option ℕ) → place_of t id ≡ o → is_undoing (rollback_at t o).stage ≡ true → (rollback_at t o).first ≡ id
found_first t id None is undoing = absurd cc
found_first t id (Some k) is undoing = ap (λ z. (slice_index_or t.rollbacks z free_tran).first) (same k) ∙ first_at t.rollbacks 0 id k is
  where
    same : (n : ℕ) → n ≡ n - 0
    same n = omega arith

pub first_named : (s : MarksState) (o : Owner) → IsTaken s o → (tran_of s o).first ≡ name_of s o
first_named s (owner.Slot slot) taken = refl
first_named s (owner.Rollback id) taken = found_first s.trans id (place_of s.trans id) refl taken
