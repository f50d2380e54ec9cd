-- Rollbacks by their numbers, as the list of them has them.
use Rattle.std.proofs.Common.{◌≡◌, ℕ, zero, suc, ◌+◌, ◌≤◌, refl, sym, ◌∙◌, ap, subst, arith, Bool, true, false, List, [], ◌∷◌, ◌++◌, Option, Some, None}
use Rattle.std.specs.Prelude.{◌≢◌, ◌-◌, ◌==◌, if◌then◌else◌, is_some, remove, slice_index_or, slice_set}
use Rattle.std.proofs.lemmas.Bool.{eq-eqb, eqb-true}
use Rattle.member_trans.specs.Trans.{TransState, TranState, free_tran, is_undoing, place_in, place_of, rollback_at}

-- the first one of this number
abbrev pub found_in : List TranState → ℕ → TranState
found_in [] id = free_tran
found_in (r ∷ rs) id = if r.first == id then r else found_in rs id

-- ---- it is the one at its place
abbrev at_place : List TranState → ℕ → Option ℕ → TranState
at_place rs n None = free_tran
at_place rs n (Some k) = slice_index_or rs (k - n) free_tran

some_is : (a b : ℕ) → Some a ≡ Some b → a ≡ b
some_is a b e = cc

none_some : (k : ℕ) → None ≡ Some k → ⊥
none_some k e = cc

place_from : (rs : List TranState) (n id k : ℕ) → place_in rs n id ≡ Some k → n ≤ k
place_from [] n id k e = absurd (none_some k e)
place_from (r ∷ rs) n id k e = by (r.first == id) (place_from rs (n + 1) id k) e
  where
    by : (b : Bool) → (place_in rs (n + 1) id ≡ Some k → n + 1 ≤ k) → (if b then Some n else place_in rs (n + 1) id) ≡ Some k → n ≤ k
    by true rest h = (let same = some_is n k h in omega (arith, same))
    by false rest h = (let le = rest h in omega (arith, le))

found_at : (rs : List TranState) (n id : ℕ) → at_place rs n (place_in rs n id) ≡ found_in rs id
found_at [] n id = refl
found_at (r ∷ rs) n id = by (r.first == id) (found_at rs (n + 1) id)
  where
    here : n - n ≡ 0
    here = omega arith

    behind : (k : ℕ) → n + 1 ≤ k → k - n ≡ suc (k - (n + 1))
    behind k le = omega (arith, le)

    shift : (o : Option ℕ) → place_in rs (n + 1) id ≡ o → at_place (r ∷ rs) n o ≡ at_place rs (n + 1) o
    shift None e = refl
    shift (Some k) e = ap (λ z. slice_index_or (r ∷ rs) z free_tran) (behind k (place_from rs (n + 1) id k e))

    by : (b : Bool) → at_place rs (n + 1) (place_in rs (n + 1) id) ≡ found_in rs id → at_place (r ∷ rs) n (if b then Some n else place_in rs (n + 1) id) ≡ (if b then r else found_in rs id)
    by true rest = ap (λ z. slice_index_or (r ∷ rs) z free_tran) here
    by false rest = shift (place_in rs (n + 1) id) refl ∙ rest

pub rollback_found : (t : TransState) (id : ℕ) → rollback_at t (place_of t id) ≡ found_in t.rollbacks id
rollback_found t id = from_first (place_of t id) ∙ found_at t.rollbacks 0 id
  where
    same : (k : ℕ) → k ≡ k - 0
    same k = omega arith

    from_first : (o : Option ℕ) → rollback_at t o ≡ at_place t.rollbacks 0 o
    from_first None = refl
    from_first (Some k) = ap (λ z. slice_index_or t.rollbacks z free_tran) (same k)

abbrev pub Undoes : List TranState → ℕ → Type 0
Undoes rs id = is_undoing (found_in rs id).stage ≡ true

pub to_list : (t : TransState) (id : ℕ) → is_undoing (rollback_at t (place_of t id)).stage ≡ true → Undoes t.rollbacks id
to_list t id h = subst (λ (z : TranState). is_undoing z.stage ≡ true) (rollback_found t id) h

pub from_list : (t : TransState) (id : ℕ) → Undoes t.rollbacks id → is_undoing (rollback_at t (place_of t id)).stage ≡ true
from_list t id h = subst (λ (z : TranState). is_undoing z.stage ≡ true) (sym (rollback_found t id)) h

-- ---- one is changed, comes to them or goes
either : (r : TranState) (id : ℕ) (rs ss : List TranState) (b : Bool) → (Undoes rs id → Undoes ss id) → is_undoing (if b then r else found_in rs id).stage ≡ true → is_undoing (if b then r else found_in ss id).stage ≡ true
either r id rs ss true rest e = e
either r id rs ss false rest e = rest e

pub undoes_set : (rs : List TranState) (k id : ℕ) (x : TranState) → x.first ≡ (slice_index_or rs k free_tran).first → x.stage ≡ (slice_index_or rs k free_tran).stage → Undoes rs id → Undoes (slice_set rs k x) id
undoes_set [] k id x first same h = h
undoes_set (r ∷ rs) zero id x first same h = subst (λ (z : ℕ). is_undoing (if z == id then x else found_in rs id).stage ≡ true) (sym first) (by (r.first == id) h)
  where
    by : (b : Bool) → is_undoing (if b then r else found_in rs id).stage ≡ true → is_undoing (if b then x else found_in rs id).stage ≡ true
    by true e = subst (λ z. is_undoing z ≡ true) (sym same) e
    by false e = e
undoes_set (r ∷ rs) (suc k) id x first same h = either r id rs (slice_set rs k x) (r.first == id) (undoes_set rs k id x first same) h

pub undoes_more : (rs xs : List TranState) (id : ℕ) → Undoes rs id → Undoes (rs ++ xs) id
undoes_more [] xs id h = absurd cc
undoes_more (r ∷ rs) xs id h = either r id rs (rs ++ xs) (r.first == id) (undoes_more rs xs id) h

some_new : (n : ℕ) → is_some (Some n) ≡ false → ⊥
some_new n e = cc

pub undoes_new : (rs : List TranState) (n : ℕ) (x : TranState) → is_some (place_in rs n x.first) ≡ false → is_undoing x.stage ≡ true → Undoes (rs ++ x ∷ []) x.first
undoes_new [] n x new h = subst (λ (z : Bool). is_undoing (if z then x else free_tran).stage ≡ true) (sym (eq-eqb x.first x.first refl)) h
undoes_new (r ∷ rs) n x new h = by (r.first == x.first) (λ e. undoes_new rs (n + 1) x e h) new
  where
    by : (b : Bool) → (is_some (place_in rs (n + 1) x.first) ≡ false → Undoes (rs ++ x ∷ []) x.first) → is_some (if b then Some n else place_in rs (n + 1) x.first) ≡ false
        → is_undoing (if b then r else found_in (rs ++ x ∷ []) x.first).stage ≡ true
    by true rest e = absurd (some_new n e)
    by false rest e = rest e

remove_none : (k : ℕ) → ◌≡◌ {A = List TranState} (remove [] k) []
remove_none zero = refl
remove_none (suc k) = refl

pub undoes_left : (rs : List TranState) (k id other : ℕ) → (slice_index_or rs k free_tran).first ≡ id → other ≢ id → Undoes rs other → Undoes (remove rs k) other
undoes_left [] k id other first ne h = subst (λ (z : List TranState). Undoes z other) (sym (remove_none k)) h
undoes_left (r ∷ rs) zero id other first ne h = by (r.first == other) refl h
  where
    by : (b : Bool) → (r.first == other) ≡ b → is_undoing (if b then r else found_in rs other).stage ≡ true → Undoes rs other
    by true same e = absurd (ne (sym (eqb-true r.first other same) ∙ first))
    by false same e = e
undoes_left (r ∷ rs) (suc k) id other first ne h = either r other rs (remove rs k) (r.first == other) (undoes_left rs k id other first ne) h

-- the one at its place has its number
pub first_at : (rs : List TranState) (n id k : ℕ) → place_in rs n id ≡ Some k → (slice_index_or rs (k - n) free_tran).first ≡ id
first_at [] n id k e = absurd (none_some k e)
first_at (r ∷ rs) n id k e = by (r.first == id) refl (first_at rs (n + 1) id k) e
  where
    here : n ≡ k → k - n ≡ 0
    here same = omega (arith, same)

    behind : n + 1 ≤ k → k - n ≡ suc (k - (n + 1))
    behind le = omega (arith, le)

    by : (b : Bool) → (r.first == id) ≡ b → (place_in rs (n + 1) id ≡ Some k → (slice_index_or rs (k - (n + 1)) free_tran).first ≡ id) → (if b then Some n else place_in rs (n + 1) id) ≡ Some k
        → (slice_index_or (r ∷ rs) (k - n) free_tran).first ≡ id
    by true same rest h = ap (λ z. (slice_index_or (r ∷ rs) z free_tran).first) (here (some_is n k h)) ∙ eqb-true r.first id same
    by false other rest h = ap (λ z. (slice_index_or (r ∷ rs) z free_tran).first) (behind (place_from rs (n + 1) id k h)) ∙ rest h
