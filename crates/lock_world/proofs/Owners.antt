-- The claims of each owner where those of one are others.
use Rattle.std.proofs.Common.{◌≡◌, ℕ, zero, suc, ◌+◌, ◌≤◌, ◌<◌, refl, sym, ◌∙◌, ap, subst, arith, Bool, true, false, inl, inr, List, [], ◌∷◌, length}
use Rattle.std.specs.Prelude.{◌≢◌, ◌-◌, ◌==◌, if◌then◌else◌, drop, nat_lt, slice_index_or, slice_set}
use Rattle.std.proofs.lemmas.Bool.{cond_both, cond-true, cond-false, cases_eq, eq-eqb, ne_eqb, le-leb, lt-ltb}
use Rattle.lock_manager.specs.declared.claim.Claim.{Claim}
use Rattle.lock_manager.specs.declared.claim.Rollback.{Rollback}
use Rattle.lock_manager.specs.Buckets.{AreDistinct}
use Rattle.lock_manager.specs.Managers.{Book, claims_of}
use Rattle.lock_world.specs.Views.{is_slot, rollback_claims, claims_from}
use Rattle.lock_world.specs.Books.{IsBook}
use Rattle.lock_world.proofs.Statuses.{set_apart}

pub drop_set : {A : Type 0} → (xs : List A) (n i : ℕ) (a : A) → i < n → drop n (slice_set xs i a) ≡ drop n xs
drop_set xs zero i a lt = absurd (omega (arith, lt))
drop_set [] (suc n) i a lt = refl
drop_set (x ∷ xs) (suc n) zero a lt = refl
drop_set (x ∷ xs) (suc n) (suc i) a lt = drop_set xs n i a (omega (arith, lt))

pub set_same : {A : Type 0} → (xs : List A) (i : ℕ) (a d : A) → i < length xs → slice_index_or (slice_set xs i a) i d ≡ a
set_same [] i a d lt = absurd (omega (arith, lt))
set_same (x ∷ xs) zero a d lt = refl
set_same (x ∷ xs) (suc i) a d lt = set_same xs i a d (omega (arith, lt))

pub set_length : {A : Type 0} → (xs : List A) (i : ℕ) (a : A) → length (slice_set xs i a) ≡ length xs
set_length [] i a = refl
set_length (x ∷ xs) zero a = refl
set_length (x ∷ xs) (suc i) a = ap suc (set_length xs i a)

-- ---- what each owner has, by what each place has
each_rollback : (P : List Claim → Type 0) (rs : List Rollback) (hs : List (List Claim)) (id : ℕ) → P [] → ((i : ℕ) → P (slice_index_or hs i [])) → P (rollback_claims rs hs id)
each_rollback P [] hs id none each = none
each_rollback P (r ∷ rs) [] id none each = none
each_rollback P (r ∷ rs) (cs ∷ hs) id none each = cond_both (r.id == id) cs (rollback_claims rs hs id) P (λ t. each 0) (λ t. each_rollback P rs hs id none (λ i. each (suc i)))

at_drop : (P : List Claim → Type 0) (k : ℕ) (hs : List (List Claim)) → P [] → ((i : ℕ) → P (slice_index_or hs i [])) → (i : ℕ) → P (slice_index_or (drop k hs) i [])
at_drop P zero hs none each i = each i
at_drop P (suc k) [] none each i = none
at_drop P (suc k) (cs ∷ hs) none each i = at_drop P k hs none (λ j. each (suc j)) i

pub each_owner : (P : List Claim → Type 0) (hs : List (List Claim)) (rs : List Rollback) (agents o : ℕ) → P [] → ((i : ℕ) → P (slice_index_or hs i [])) → P (claims_from hs rs agents o)
each_owner P hs rs agents o none each = cond_both (is_slot o) (if nat_lt o (agents + 1) then slice_index_or hs o [] else []) (rollback_claims rs (drop (agents + 1) hs) (o - 17)) P
    (λ t. cond_both (nat_lt o (agents + 1)) (slice_index_or hs o []) [] P (λ u. each o) (λ u. none))
    (λ t. each_rollback P rs (drop (agents + 1) hs) (o - 17) none (at_drop P (agents + 1) hs none each))

-- the same without one slot
past_drop : (P : List Claim → Type 0) (k : ℕ) (hs : List (List Claim)) → P [] → ((i : ℕ) → k ≤ i → P (slice_index_or hs i [])) → (i : ℕ) → P (slice_index_or (drop k hs) i [])
past_drop P zero hs none each i = each i (omega arith)
past_drop P (suc k) [] none each i = none
past_drop P (suc k) (cs ∷ hs) none each i = past_drop P k hs none (λ j le. each (suc j) (omega (arith, le))) i

pub each_other : (P : List Claim → Type 0) (hs : List (List Claim)) (rs : List Rollback) (agents slot o : ℕ) → P [] → slot < agents + 1 → ((i : ℕ) → i ≢ slot → P (slice_index_or hs i [])) → o ≢ slot → P (claims_from hs rs agents o)
each_other P hs rs agents slot o none lt each ne = cond_both (is_slot o) (if nat_lt o (agents + 1) then slice_index_or hs o [] else []) (rollback_claims rs (drop (agents + 1) hs) (o - 17)) P
    (λ t. cond_both (nat_lt o (agents + 1)) (slice_index_or hs o []) [] P (λ u. each o ne) (λ u. none))
    (λ t. each_rollback P rs (drop (agents + 1) hs) (o - 17) none (past_drop P (agents + 1) hs none (λ i le. each i (λ e. less_than i (agents + 1) le (subst (λ z. z < agents + 1) (sym e) lt)))))
  where
    less_than : (i n : ℕ) → n ≤ i → i < n → ⊥
    less_than i n a b = omega (arith, a, b)

-- ---- one slot has others
slot_own : (hs : List (List Claim)) (rs : List Rollback) (agents slot : ℕ) (cs : List Claim) → agents ≤ 16 → slot < agents + 1 → slot < length hs → claims_from (slice_set hs slot cs) rs agents slot ≡ cs
slot_own hs rs agents slot cs few lt there =
    cond-true (is_slot slot) (if nat_lt slot (agents + 1) then slice_index_or (slice_set hs slot cs) slot [] else []) (rollback_claims rs (drop (agents + 1) (slice_set hs slot cs)) (slot - 17)) (le-leb slot 16 (omega (arith, few, lt)))
    ∙ cond-true (nat_lt slot (agents + 1)) (slice_index_or (slice_set hs slot cs) slot []) [] (lt-ltb slot (agents + 1) lt)
    ∙ set_same hs slot cs [] there

slot_other : (hs : List (List Claim)) (rs : List Rollback) (agents slot : ℕ) (cs : List Claim) (o : ℕ) → slot < agents + 1 → o ≢ slot → claims_from (slice_set hs slot cs) rs agents o ≡ claims_from hs rs agents o
slot_other hs rs agents slot cs o lt ne =
    ap (λ (z : List Claim). if is_slot o then (if nat_lt o (agents + 1) then z else []) else rollback_claims rs (drop (agents + 1) (slice_set hs slot cs)) (o - 17)) (set_apart hs slot o cs [] ne)
    ∙ ap (λ (z : List (List Claim)). if is_slot o then (if nat_lt o (agents + 1) then slice_index_or hs o [] else []) else rollback_claims rs z (o - 17)) (drop_set hs (agents + 1) slot cs lt)

pub slot_set : (hs : List (List Claim)) (rs : List Rollback) (agents slot : ℕ) (cs : List Claim) (o : ℕ) → agents ≤ 16 → slot < agents + 1 → slot < length hs
    → claims_from (slice_set hs slot cs) rs agents o ≡ (if o == slot then cs else claims_from hs rs agents o)
slot_set hs rs agents slot cs o few lt there = elim (cases_eq o slot) [
  | inl e ↦ subst (λ z. claims_from (slice_set hs slot cs) rs agents z ≡ (if z == slot then cs else claims_from hs rs agents z)) (sym e)
      (slot_own hs rs agents slot cs few lt there ∙ sym (cond-true (slot == slot) cs (claims_from hs rs agents slot) (eq-eqb slot slot refl)))
  | inr ne ↦ slot_other hs rs agents slot cs o lt ne ∙ sym (cond-false (o == slot) cs (claims_from hs rs agents o) (ne_eqb o slot ne))
]

pub once_set : (hs : List (List Claim)) (i : ℕ) (cs : List Claim) → AreDistinct cs → ((j : ℕ) → AreDistinct (slice_index_or hs j [])) → (j : ℕ) → AreDistinct (slice_index_or (slice_set hs i cs) j [])
once_set [] i cs d each j = each j
once_set (x ∷ xs) zero cs d each zero = d
once_set (x ∷ xs) zero cs d each (suc j) = each (suc j)
once_set (x ∷ xs) (suc i) cs d each zero = each zero
once_set (x ∷ xs) (suc i) cs d each (suc j) = once_set xs i cs d (λ k. each (suc k)) j

-- the lock manager still stands
pub slot_stands : (b : Book) (slot spare : ℕ) (cs : List Claim) → IsBook b → AreDistinct cs → IsBook (record b { holders = slice_set b.holders slot cs; spare = spare })
slot_stands b slot spare cs s d = record {
  owners = set_length b.holders slot cs ∙ s.owners;
  few = s.few;
  once = once_set b.holders slot cs d s.once;
  apart = s.apart;
}
