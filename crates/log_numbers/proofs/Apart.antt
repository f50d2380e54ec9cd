-- Owners whose transactions have one name are one.
use Rattle.std.proofs.Common.{◌≡◌, ℕ, zero, suc, ◌+◌, ◌-◌, ◌≤◌, refl, sym, ◌∙◌, ap, arith, Bool, true, false, List, [], ◌∷◌, Option, Some, None}
use Rattle.std.specs.Prelude.{◌≢◌, ◌==◌, if◌then◌else◌, slice_index_or}
use Rattle.std.proofs.lemmas.Bool.{eq-eqb, eqb-true}
use Rattle.member_trans.specs.declared.fate.Owner.TheVariants as owner
use Rattle.member_trans.specs.Trans.{TransState, TranState, free_tran, is_undoing, place_in, place_of, rollback_at, tran_of as tran_in}
use Rattle.log_numbers.specs.Numbers.{NamesApart, RollbacksNamed, named_among, one_if}
use Rattle.log_numbers.proofs.Lists.{at_named}

-- ---- two of a list
named_here : (x : TranState) (id : ℕ) → x.first ≡ id → one_if (x.first == id) ≡ 1
named_here x id e = ap one_if (eq-eqb x.first id e)

both_named : (ts : List TranState) (a b id : ℕ) → id ≢ 0 → (slice_index_or ts a free_tran).first ≡ id → (slice_index_or ts b free_tran).first ≡ id → named_among ts id ≤ 1 → a ≡ b
both_named [] a b id some x y once = absurd (some (sym x))
both_named (t ∷ ts) zero zero id some x y once = refl
both_named (t ∷ ts) zero (suc b) id some x y once = absurd (let p = named_here t id x in let q = named_here (slice_index_or ts b free_tran) id y in let r = at_named ts b id some in omega (arith, p, q, r, once))
both_named (t ∷ ts) (suc a) zero id some x y once = absurd (let p = named_here t id y in let q = named_here (slice_index_or ts a free_tran) id x in let r = at_named ts a id some in omega (arith, p, q, r, once))
both_named (t ∷ ts) (suc a) (suc b) id some x y once = ap suc (both_named ts a b id some x y (omega (arith, once)))

-- ---- a rollback's name is its number
some_is : (a b : ℕ) → Some a ≡ Some b → a ≡ b
some_is a b e = cc

none_some : (k : ℕ) → None ≡ Some k → ⊥
none_some k e = cc

place_from : (rs : List TranState) (n id k : ℕ) → place_in rs n id ≡ Some k → n ≤ k
place_from [] n id k e = absurd (none_some k e)
place_from (r ∷ rs) n id k e = by (r.first == id) (place_from rs (n + 1) id k) e
  where
    by : (b : Bool) → (place_in rs (n + 1) id ≡ Some k → n + 1 ≤ k) → (if b then Some n else place_in rs (n + 1) id) ≡ Some k → n ≤ k
    by true rest h = (let same = some_is n k h in omega (arith, same))
    by false rest h = (let le = rest h in omega (arith, le))

first_at : (rs : List TranState) (n id k : ℕ) → place_in rs n id ≡ Some k → (slice_index_or rs (k - n) free_tran).first ≡ id
first_at [] n id k e = absurd (none_some k e)
first_at (r ∷ rs) n id k e = by (r.first == id) refl (first_at rs (n + 1) id k) e
  where
    here : n ≡ k → k - n ≡ 0
    here same = omega (arith, same)

    behind : n + 1 ≤ k → k - n ≡ suc (k - (n + 1))
    behind le = omega (arith, le)

    by : (b : Bool) → (r.first == id) ≡ b → (place_in rs (n + 1) id ≡ Some k → (slice_index_or rs (k - (n + 1)) free_tran).first ≡ id) → (if b then Some n else place_in rs (n + 1) id) ≡ Some k
        → (slice_index_or (r ∷ rs) (k - n) free_tran).first ≡ id
    by true same rest h = ap (λ z. (slice_index_or (r ∷ rs) z free_tran).first) (here (some_is n k h)) ∙ eqb-true r.first id same
    by false other rest h = ap (λ z. (slice_index_or (r ∷ rs) z free_tran).first) (behind (place_from rs (n + 1) id k h)) ∙ rest h

found_first : (t : TransState) (id : ℕ) (o : Option ℕ) → place_of t id ≡ o → (rollback_at t o).first ≢ 0 → (rollback_at t o).first ≡ id
found_first t id None is some = absurd (some refl)
found_first t id (Some k) is some = ap (λ z. (slice_index_or t.rollbacks z free_tran).first) (same k) ∙ first_at t.rollbacks 0 id k is
  where
    same : (n : ℕ) → n ≡ n - 0
    same n = omega arith

found_undoing : (t : TransState) (id : ℕ) (o : Option ℕ) → place_of t id ≡ o → is_undoing (rollback_at t o).stage ≡ true → (rollback_at t o).first ≡ id
found_undoing t id None is undoing = absurd cc
found_undoing t id (Some k) is undoing = ap (λ z. (slice_index_or t.rollbacks z free_tran).first) (same k) ∙ first_at t.rollbacks 0 id k is
  where
    same : (n : ℕ) → n ≡ n - 0
    same n = omega arith

pub rollbacks_named : RollbacksNamed
rollbacks_named s id undoing = found_undoing s.trans id (place_of s.trans id) refl undoing

rollback_first : (t : TransState) (id : ℕ) → (tran_in t (owner.Rollback id)).first ≢ 0 → (tran_in t (owner.Rollback id)).first ≡ id
rollback_first t id some = found_first t id (place_of t id) refl some

pub rollback_named : (t : TransState) (id x : ℕ) → x ≢ 0 → (tran_in t (owner.Rollback id)).first ≡ x → 1 ≤ named_among t.rollbacks x
rollback_named t id x some e = by (place_of t id) e
  where
    by : (o : Option ℕ) → (rollback_at t o).first ≡ x → 1 ≤ named_among t.rollbacks x
    by None q = absurd (some (sym q))
    by (Some k) q = (let p = named_here (slice_index_or t.rollbacks k free_tran) x q in let r = at_named t.rollbacks k x some in omega (arith, p, r))

pub slot_named : (t : TransState) (slot x : ℕ) → x ≢ 0 → (tran_in t (owner.Slot slot)).first ≡ x → 1 ≤ named_among t.slots x
slot_named t slot x some e = (let p = named_here (slice_index_or t.slots slot free_tran) x e in let r = at_named t.slots slot x some in omega (arith, p, r))

-- ---- any two owners
pub names_apart : NamesApart
names_apart c s (owner.Slot a) (owner.Slot b) k some same =
    let x : ℕ = (tran_in s.trans (owner.Slot a)).first in
    let once = k.once x some in
    ap (λ (z : ℕ). owner.Slot z) (both_named s.trans.slots a b x some refl (sym same) (omega (arith, once)))
names_apart c s (owner.Slot a) (owner.Rollback b) k some same =
    let x : ℕ = (tran_in s.trans (owner.Slot a)).first in
    let p = slot_named s.trans a x some refl in
    let q = rollback_named s.trans b x some (sym same) in
    let once = k.once x some in
    absurd (omega (arith, p, q, once))
names_apart c s (owner.Rollback a) (owner.Slot b) k some same =
    let x : ℕ = (tran_in s.trans (owner.Rollback a)).first in
    let p = rollback_named s.trans a x some refl in
    let q = slot_named s.trans b x some (sym same) in
    let once = k.once x some in
    absurd (omega (arith, p, q, once))
names_apart c s (owner.Rollback a) (owner.Rollback b) k some same =
    ap (λ (z : ℕ). owner.Rollback z) (sym (rollback_first s.trans a some) ∙ (same ∙ rollback_first s.trans b (λ e. some (same ∙ e))))
