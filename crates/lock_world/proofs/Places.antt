-- Owners and the places of their claims.
use Rattle.std.proofs.Common.{◌≡◌, ℕ, zero, suc, ◌+◌, ◌≤◌, ◌<◌, refl, sym, ◌∙◌, ap, subst, arith, Bool, true, false, inl, inr, List, [], ◌∷◌, ◌++◌, length, Option, Some, None}
use Rattle.std.specs.Prelude.{◌≢◌, ◌⊎◌, ◌-◌, ◌==◌, ◌||◌, if◌then◌else◌, drop, nat_lt, remove, slice_index_or, slice_set}
use Rattle.std.proofs.lemmas.Bool.{cond-true, cond-false, cases_Bool, cases_eq, both_ways, or_left, or_right, or_parts, or_cases, eqb-true, eq-eqb, ne_eqb, le-leb, lt-ltb, ltb-true, ltb-false, false_from_ne_true, leb-true}
use Rattle.lock_manager.specs.declared.claim.Claim.{Claim}
use Rattle.lock_manager.specs.declared.claim.Rollback.{Rollback}
use Rattle.lock_manager.specs.Managers.{Book, slots, place_in}
use Rattle.lock_world.specs.Views.{is_slot, rollback_claims, claims_from}
use Rattle.lock_world.specs.Books.{has_id, AreApart, IsBook}
use Rattle.lock_world.proofs.Statuses.{set_apart}

-- ---- the numbers of the rollbacks
abbrev pub id_at : List Rollback → ℕ → ℕ
id_at [] k = 0
id_at (r ∷ rs) zero = r.id
id_at (r ∷ rs) (suc k) = id_at rs k

has_at : (rs : List Rollback) (k : ℕ) → k < length rs → has_id rs (id_at rs k) ≡ true
has_at [] k lt = absurd (omega (arith, lt))
has_at (r ∷ rs) zero lt = or_left (r.id == r.id) (has_id rs r.id) (eq-eqb r.id r.id refl)
has_at (r ∷ rs) (suc k) lt = or_right (r.id == id_at rs k) (has_id rs (id_at rs k)) (has_at rs k (omega (arith, lt)))

-- the first isn't one of the others
pub first_apart : (r : Rollback) (rs : List Rollback) (k : ℕ) → has_id rs r.id ≡ false → k < length rs → r.id ≢ id_at rs k
first_apart r rs k none lt e = both_ways (has_id rs r.id) none (subst (λ z. has_id rs z ≡ true) (sym e) (has_at rs k lt))

ids_apart : (rs : List Rollback) (k l : ℕ) → AreApart rs → k < length rs → l < length rs → k ≢ l → id_at rs k ≢ id_at rs l
ids_apart [] k l a x y ne e = omega (arith, x)
ids_apart (r ∷ rs) zero zero a x y ne e = ne refl
ids_apart (r ∷ rs) zero (suc l) a x y ne e = first_apart r rs l a.0 (omega (arith, y)) e
ids_apart (r ∷ rs) (suc k) zero a x y ne e = first_apart r rs k a.0 (omega (arith, x)) (sym e)
ids_apart (r ∷ rs) (suc k) (suc l) a x y ne e = ids_apart rs k l a.1 (omega (arith, x)) (omega (arith, y)) (λ f. ne (ap suc f)) e

pub claims_at : (rs : List Rollback) (hs : List (List Claim)) (k : ℕ) → AreApart rs → length rs ≡ length hs → k < length rs → rollback_claims rs hs (id_at rs k) ≡ slice_index_or hs k []
claims_at [] hs k a e lt = absurd (omega (arith, lt))
claims_at (r ∷ rs) [] k a e lt = absurd (omega (arith, e))
claims_at (r ∷ rs) (cs ∷ hs) zero a e lt = cond-true (r.id == r.id) cs (rollback_claims rs hs r.id) (eq-eqb r.id r.id refl)
claims_at (r ∷ rs) (cs ∷ hs) (suc k) a e lt =
    cond-false (r.id == id_at rs k) cs (rollback_claims rs hs (id_at rs k)) (ne_eqb r.id (id_at rs k) (first_apart r rs k a.0 (omega (arith, lt)))) ∙ claims_at rs hs k a.1 (omega (arith, e)) (omega (arith, lt))

-- ---- the owner at a place
abbrev pub owner_at : Book → ℕ → ℕ
owner_at b i = if nat_lt i (slots b) then i else id_at b.rollbacks (i - slots b) + 17

pub drop_at : {A : Type 0} → (xs : List A) (n i at : ℕ) (d : A) → at ≡ n + i → slice_index_or (drop n xs) i d ≡ slice_index_or xs at d
drop_at xs zero i at d e = ap (λ z. slice_index_or xs z d) (omega (arith, e))
drop_at [] (suc n) i at d e = refl
drop_at (x ∷ xs) (suc n) i zero d e = absurd (omega (arith, e))
drop_at (x ∷ xs) (suc n) i (suc at) d e = drop_at xs n i at d (omega (arith, e))

pub drop_length : {A : Type 0} → (xs : List A) (n more : ℕ) → length xs ≡ n + more → length (drop n xs) ≡ more
drop_length xs zero more e = omega (arith, e)
drop_length [] (suc n) more e = omega (arith, e)
drop_length (x ∷ xs) (suc n) more e = drop_length xs n more (omega (arith, e))

no_slot : (id : ℕ) → is_slot (id + 17) ≡ false
no_slot id = false_from_ne_true (is_slot (id + 17)) (λ t. above id (leb-true (id + 17) 16 t))
  where
    above : (id : ℕ) → id + 17 ≤ 16 → ⊥
    above id le = omega (arith, le)

pub rollback_owner_claims : (hs : List (List Claim)) (rs : List Rollback) (agents id : ℕ) → claims_from hs rs agents (id + 17) ≡ rollback_claims rs (drop (agents + 1) hs) id
rollback_owner_claims hs rs agents id =
    let back : id + 17 - 17 ≡ id = omega arith in
    cond-false (is_slot (id + 17)) (if nat_lt (id + 17) (agents + 1) then slice_index_or hs (id + 17) [] else []) (rollback_claims rs (drop (agents + 1) hs) (id + 17 - 17)) (no_slot id)
    ∙ ap (λ z. rollback_claims rs (drop (agents + 1) hs) z) back

pub owner_claims : (b : Book) (i : ℕ) → IsBook b → i < length b.holders → claims_from b.holders b.rollbacks b.agents (owner_at b i) ≡ slice_index_or b.holders i []
owner_claims b i s lt = elim (cases_Bool (nat_lt i (slots b))) [
  | inl t ↦ subst (λ z. claims_from b.holders b.rollbacks b.agents z ≡ slice_index_or b.holders i []) (sym (cond-true (nat_lt i (slots b)) i (id_at b.rollbacks (i - slots b) + 17) t)) (slot (ltb-true i (slots b) t))
  | inr f ↦ subst (λ z. claims_from b.holders b.rollbacks b.agents z ≡ slice_index_or b.holders i []) (sym (cond-false (nat_lt i (slots b)) i (id_at b.rollbacks (i - slots b) + 17) f)) (rollback (ltb-false i (slots b) f))
]
  where
    slot : i < slots b → claims_from b.holders b.rollbacks b.agents i ≡ slice_index_or b.holders i []
    slot below =
        cond-true (is_slot i) (if nat_lt i (b.agents + 1) then slice_index_or b.holders i [] else []) (rollback_claims b.rollbacks (drop (b.agents + 1) b.holders) (i - 17)) (le-leb i 16 (omega (arith, below, s.few)))
        ∙ cond-true (nat_lt i (b.agents + 1)) (slice_index_or b.holders i []) [] (lt-ltb i (b.agents + 1) below)

    rollback : slots b ≤ i → claims_from b.holders b.rollbacks b.agents (id_at b.rollbacks (i - slots b) + 17) ≡ slice_index_or b.holders i []
    rollback past =
        let long : length b.rollbacks ≡ length (drop (slots b) b.holders) = sym (drop_length b.holders (slots b) (length b.rollbacks) s.owners) in
        let there : i - slots b < length b.rollbacks = omega (arith, past, lt, s.owners) in
        let at : i ≡ slots b + (i - slots b) = omega (arith, past) in
        rollback_owner_claims b.holders b.rollbacks b.agents (id_at b.rollbacks (i - slots b)) ∙ claims_at b.rollbacks (drop (slots b) b.holders) (i - slots b) s.apart long there ∙ drop_at b.holders (slots b) (i - slots b) i [] at

pub owners_apart : (b : Book) (i j : ℕ) → IsBook b → i < length b.holders → j < length b.holders → i ≢ j → owner_at b i ≢ owner_at b j
owners_apart b i j s x y ne = by (nat_lt i (slots b)) (nat_lt j (slots b)) refl refl
  where
    low : (k : ℕ) → k < slots b → k ≤ 16
    low k lt = omega (arith, lt, s.few)

    mixed : (k id : ℕ) → k < slots b → k ≢ id + 17
    mixed k id lt e = omega (arith, e, s.few, lt)

    same_less : (k l : ℕ) → slots b ≤ k → slots b ≤ l → k - slots b ≡ l - slots b → k ≡ l
    same_less k l p q e = omega (arith, p, q, e)

    plus_same : (k l : ℕ) → k + 17 ≡ l + 17 → k ≡ l
    plus_same k l e = omega (arith, e)

    by : (p q : Bool) → nat_lt i (slots b) ≡ p → nat_lt j (slots b) ≡ q → (if p then i else id_at b.rollbacks (i - slots b) + 17) ≢ (if q then j else id_at b.rollbacks (j - slots b) + 17)
    by true true p q e = ne e
    by true false p q e = mixed i (id_at b.rollbacks (j - slots b)) (ltb-true i (slots b) p) e
    by false true p q e = mixed j (id_at b.rollbacks (i - slots b)) (ltb-true j (slots b) q) (sym e)
    by false false p q e =
        let a = ltb-false i (slots b) p in
        let c = ltb-false j (slots b) q in
        ids_apart b.rollbacks (i - slots b) (j - slots b) s.apart (omega (arith, a, x, s.owners)) (omega (arith, c, y, s.owners)) (λ f. ne (same_less i j a c f)) (plus_same (id_at b.rollbacks (i - slots b)) (id_at b.rollbacks (j - slots b)) e)

-- ---- the place of a rollback
some_nat : (a b : ℕ) → Some a ≡ Some b → a ≡ b
some_nat a b e = cc

none_nat : (a : ℕ) → None ≡ Some a → ⊥
none_nat a e = cc

pub place_is : (rs : List Rollback) (j id p : ℕ) → place_in rs j id ≡ Some p → (k : ℕ) × (p ≡ j + k) × (k < length rs) × (id_at rs k ≡ id)
place_is [] j id p e = absurd (none_nat p e)
place_is (r ∷ rs) j id p e = by (λ f. place_is rs (j + 1) id p f) (r.id == id) refl e
  where
    by : (place_in rs (j + 1) id ≡ Some p → (k : ℕ) × (p ≡ j + 1 + k) × (k < length rs) × (id_at rs k ≡ id)) → (b : Bool) → (r.id == id) ≡ b → (if b then Some j else place_in rs (j + 1) id) ≡ Some p → (k : ℕ) × (p ≡ j + k) × (k < length (r ∷ rs)) × (id_at (r ∷ rs) k ≡ id)
    by rest true t f = let same = some_nat j p f in (0, omega (arith, same), omega arith, eqb-true r.id id t)
    by rest false t f = let ih = rest f in let at = ih.1 in let lt = ih.2 in (suc ih.0, omega (arith, at), omega (arith, lt), ih.3)
