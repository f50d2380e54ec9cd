-- The claims of rollbacks, as they come, change and go.
use Rattle.std.proofs.Common.{◌≡◌, ℕ, zero, suc, ◌+◌, ◌≤◌, ◌<◌, refl, sym, ◌∙◌, ap, subst, arith, Bool, true, false, inl, inr, List, [], ◌∷◌, ◌++◌, length, Option, Some, None}
use Rattle.std.specs.Prelude.{◌≢◌, ◌⊎◌, ◌-◌, ◌==◌, ◌||◌, if◌then◌else◌, drop, nat_lt, remove, slice_index_or, slice_set, is_none, is_some}
use Rattle.std.proofs.lemmas.Bool.{cond-true, cond-false, cases_Bool, cases_eq, both_ways, or_left, or_right, or_parts, eqb-true, eq-eqb, ne_eqb, le-leb, leb-true, lt-ltb, ltb-true, ltb-false}
use Rattle.ds_model.specs.declared.lock.Name.{Name}
use Rattle.lock_names.specs.declared.mode.Mode.{Mode}
use Rattle.lock_names.specs.declared.mode.Interest.{Interest}
use Rattle.lock_manager.specs.declared.claim.Claim.{Claim}
use Rattle.lock_manager.specs.declared.claim.Rollback.{Rollback}
use Rattle.lock_manager.specs.Buckets.{AreDistinct}
use Rattle.lock_manager.specs.Claims.{mode_in}
use Rattle.lock_manager.specs.Holders.{first_freed, left_after}
use Rattle.lock_manager.specs.Managers.{Book, slots, claims_of, place_in, with_claims, after_release, release_told, dropped, after_postpone}
use Rattle.lock_world.specs.Numbers.{name_at}
use Rattle.lock_world.specs.Views.{is_slot, rollback_owner, rollback_claims, claims_from, claims_by, claim_in}
use Rattle.lock_world.specs.Books.{has_id, AreApart, IsBook, HasLeft, IsFreed, HasHandedOn, RollbackFrees, RollbackEnds, RollbackWaits, PostponedHandsOn}
use Rattle.lock_world.proofs.Statuses.{set_apart}
use Rattle.lock_world.proofs.Owners.{drop_set, set_same, set_length, slot_set, once_set}
use Rattle.lock_world.proofs.Places.{id_at, first_apart, drop_at, drop_length, claims_at, rollback_owner_claims, place_is}
use Rattle.lock_world.proofs.Books.{IsPart, slot_claims, left_part, part_same, told_as, is_freed, not_held, freed_free, no_mode}

eqb_turn : (a b : ℕ) → (a == b) ≡ (b == a)
eqb_turn a b = elim (cases_eq a b) [
  | inl e ↦ eq-eqb a b e ∙ sym (eq-eqb b a (sym e))
  | inr ne ↦ ne_eqb a b ne ∙ sym (ne_eqb b a (λ f. ne (sym f)))
]

plus_eqb : (i j : ℕ) → (i == j) ≡ (i + 17 == j + 17)
plus_eqb i j = elim (cases_eq i j) [
  | inl e ↦ eq-eqb i j e ∙ sym (eq-eqb (i + 17) (j + 17) (ap (λ z. z + 17) e))
  | inr ne ↦ ne_eqb i j ne ∙ sym (ne_eqb (i + 17) (j + 17) (λ f. ne (cancel i j f)))
]
  where
    cancel : (i j : ℕ) → i + 17 ≡ j + 17 → i ≡ j
    cancel i j f = omega (arith, f)

pick_twice : {A : Type 0} → (b : Bool) (x y z : A) → (if b then x else y) ≡ (if b then x else if b then z else y)
pick_twice true x y z = refl
pick_twice false x y z = refl

pick_swapped : {A : Type 0} → (d q : Bool) (x y z : A) → (d ≡ true → q ≡ true → ⊥) → (if d then x else if q then y else z) ≡ (if q then y else if d then x else z)
pick_swapped true true x y z never = absurd (never refl refl)
pick_swapped true false x y z never = refl
pick_swapped false true x y z never = refl
pick_swapped false false x y z never = refl

-- ---- who an owner is
owner_is : (o : ℕ) → (is_slot o ≡ true) ⊎ ((id : ℕ) × (o ≡ id + 17))
owner_is o = by (is_slot o) refl
  where
    by : (b : Bool) → is_slot o ≡ b → (is_slot o ≡ true) ⊎ ((id : ℕ) × (o ≡ id + 17))
    by true t = inl t
    by false f = elim (cases_Bool (nat_lt 16 o)) [
      | inl lt ↦ let above = ltb-true 16 o lt in inr (o - 17, omega (arith, above))
      | inr ge ↦ inl (le-leb o 16 (ltb-false 16 o ge))
    ]

slots_same : (hs ks : List (List Claim)) (rs ss : List Rollback) (agents o : ℕ) → is_slot o ≡ true → (o < agents + 1 → slice_index_or hs o [] ≡ slice_index_or ks o []) → claims_from hs rs agents o ≡ claims_from ks ss agents o
slots_same hs ks rs ss agents o t same =
    cond-true (is_slot o) (if nat_lt o (agents + 1) then slice_index_or hs o [] else []) (rollback_claims rs (drop (agents + 1) hs) (o - 17)) t
    ∙ by (nat_lt o (agents + 1)) refl
    ∙ sym (cond-true (is_slot o) (if nat_lt o (agents + 1) then slice_index_or ks o [] else []) (rollback_claims ss (drop (agents + 1) ks) (o - 17)) t)
  where
    by : (b : Bool) → nat_lt o (agents + 1) ≡ b → (if b then slice_index_or hs o [] else []) ≡ (if b then slice_index_or ks o [] else [])
    by true lt = same (ltb-true o (agents + 1) lt)
    by false ge = refl

-- ---- the claims of one rollback are others
rollback_set : (rs : List Rollback) (hs : List (List Claim)) (k : ℕ) (cs : List Claim) (id : ℕ) → AreApart rs → length rs ≡ length hs → k < length rs → rollback_claims rs (slice_set hs k cs) id ≡ (if id == id_at rs k then cs else rollback_claims rs hs id)
rollback_set [] hs k cs id a e lt = absurd (omega (arith, lt))
rollback_set (r ∷ rs) [] k cs id a e lt = absurd (omega (arith, e))
rollback_set (r ∷ rs) (c ∷ hs) zero cs id a e lt =
    ap (λ (b : Bool). if b then cs else rollback_claims rs hs id) (eqb_turn r.id id) ∙ pick_twice (id == r.id) cs (rollback_claims rs hs id) c
    ∙ ap (λ (b : Bool). if id == r.id then cs else if b then c else rollback_claims rs hs id) (eqb_turn id r.id)
rollback_set (r ∷ rs) (c ∷ hs) (suc k) cs id a e lt =
    ap (λ (z : List Claim). if r.id == id then c else z) (rollback_set rs hs k cs id a.1 (omega (arith, e)) (omega (arith, lt)))
    ∙ pick_swapped (r.id == id) (id == id_at rs k) c cs (rollback_claims rs hs id) (λ d q. first_apart r rs k a.0 (omega (arith, lt)) (eqb-true r.id id d ∙ eqb-true id (id_at rs k) q))

drop_set_in : {A : Type 0} → (xs : List A) (n k at : ℕ) (a : A) → at ≡ n + k → drop n (slice_set xs at a) ≡ slice_set (drop n xs) k a
drop_set_in xs zero k at a e = ap (λ z. slice_set xs z a) (omega (arith, e))
drop_set_in [] (suc n) k at a e = refl
drop_set_in (x ∷ xs) (suc n) k zero a e = absurd (omega (arith, e))
drop_set_in (x ∷ xs) (suc n) k (suc at) a e = drop_set_in xs n k at a (omega (arith, e))

-- the owner at a place behind the slots has others
past_set : (b : Book) (k : ℕ) (cs : List Claim) (o : ℕ) → IsBook b → k < length b.rollbacks → claims_from (slice_set b.holders (slots b + k) cs) b.rollbacks b.agents o ≡ (if o == rollback_owner (id_at b.rollbacks k) then cs else claims_by b o)
past_set b k cs o s lt = elim (owner_is o) [
  | inl slot ↦ slots_same (slice_set b.holders (slots b + k) cs) b.holders b.rollbacks b.rollbacks b.agents o slot (λ below. set_apart b.holders (slots b + k) o cs [] (before o below))
      ∙ sym (cond-false (o == rollback_owner (id_at b.rollbacks k)) cs (claims_by b o) (ne_eqb o (rollback_owner (id_at b.rollbacks k)) (low o (id_at b.rollbacks k) (leb-true o 16 slot))))
  | inr r ↦ subst (λ z. claims_from (slice_set b.holders (slots b + k) cs) b.rollbacks b.agents z ≡ (if z == rollback_owner (id_at b.rollbacks k) then cs else claims_by b z)) (sym r.1) (rollback r.0)
]
  where
    before : (o : ℕ) → o < b.agents + 1 → o ≢ slots b + k
    before o below e = omega (arith, below, e)

    low : (o id : ℕ) → o ≤ 16 → o ≢ id + 17
    low o id le e = omega (arith, le, e)

    rollback : (id : ℕ) → claims_from (slice_set b.holders (slots b + k) cs) b.rollbacks b.agents (id + 17) ≡ (if id + 17 == rollback_owner (id_at b.rollbacks k) then cs else claims_by b (id + 17))
    rollback id =
        rollback_owner_claims (slice_set b.holders (slots b + k) cs) b.rollbacks b.agents id
        ∙ ap (λ z. rollback_claims b.rollbacks z id) (drop_set_in b.holders (slots b) k (slots b + k) cs refl)
        ∙ rollback_set b.rollbacks (drop (slots b) b.holders) k cs id s.apart (sym (drop_length b.holders (slots b) (length b.rollbacks) s.owners)) lt
        ∙ ap (λ (z : Bool). if z then cs else rollback_claims b.rollbacks (drop (slots b) b.holders) id) (plus_eqb id (id_at b.rollbacks k))
        ∙ ap (λ (z : List Claim). if id + 17 == rollback_owner (id_at b.rollbacks k) then cs else z) (sym (rollback_owner_claims b.holders b.rollbacks b.agents id))

place_stands : (b : Book) (at spare : ℕ) (cs : List Claim) → IsBook b → AreDistinct cs → IsBook (record b { holders = slice_set b.holders at cs; spare = spare })
place_stands b at spare cs s d = record {
  owners = set_length b.holders at cs ∙ s.owners;
  few = s.few;
  once = once_set b.holders at cs d s.once;
  apart = s.apart;
}

own_claims : (b : Book) (k : ℕ) → IsBook b → k < length b.rollbacks → claims_by b (rollback_owner (id_at b.rollbacks k)) ≡ claims_of b (slots b + k)
own_claims b k s lt =
    rollback_owner_claims b.holders b.rollbacks b.agents (id_at b.rollbacks k)
    ∙ claims_at b.rollbacks (drop (slots b) b.holders) k s.apart (sym (drop_length b.holders (slots b) (length b.rollbacks) s.owners)) lt
    ∙ drop_at b.holders (slots b) k (slots b + k) [] refl

place_left : (b : Book) (k spare : ℕ) (cs : List Claim) → IsBook b → k < length b.rollbacks → IsPart cs (claims_of b (slots b + k)) → AreDistinct cs → HasLeft b (record b { holders = slice_set b.holders (slots b + k) cs; spare = spare }) (rollback_owner (id_at b.rollbacks k))
place_left b k spare cs s lt part d = record {
  others = λ o c ne. ap (λ z. mode_in z (name_at c)) (past_set b k cs o s lt ∙ cond-false (o == rollback_owner (id_at b.rollbacks k)) cs (claims_by b o) (ne_eqb o (rollback_owner (id_at b.rollbacks k)) ne));
  own = λ c. subst (λ (z : List Claim). mode_in z (name_at c) ≡ (if is_none (mode_in z (name_at c)) then None else claim_in b owner c)) (sym here)
      (part_same (mode_in cs (name_at c)) (claim_in b owner c) (λ x h. subst (λ z. mode_in z (name_at c) ≡ Some x) (sym (own_claims b k s lt)) (part (name_at c) x h)));
  stands = place_stands b (slots b + k) spare cs s d;
}
  where
    owner : ℕ
    owner = rollback_owner (id_at b.rollbacks k)

    here : claims_from (slice_set b.holders (slots b + k) cs) b.rollbacks b.agents owner ≡ cs
    here = past_set b k cs owner s lt ∙ cond-true (owner == owner) cs (claims_by b owner) (eq-eqb owner owner refl)

-- the rollback of this number is at this place
record IsAt (rs : List Rollback) (id k : ℕ) : Type 0 where
  there : k < length rs
  is : id_at rs k ≡ id

place_at : (rs : List Rollback) (id k : ℕ) → place_in rs 0 id ≡ Some k → IsAt rs id k
place_at rs id k e = from (place_is rs 0 id k e)
  where
    back : (j : ℕ) → k ≡ 0 + j → j ≡ k
    back j e = omega (arith, e)

    from : ((j : ℕ) × (k ≡ 0 + j) × (j < length rs) × (id_at rs j ≡ id)) → IsAt rs id k
    from it = record {
      there = subst (λ z. z < length rs) (back it.0 it.1) it.2;
      is = subst (λ z. id_at rs z ≡ id) (back it.0 it.1) it.3;
    }

pub rollback_frees : RollbackFrees
rollback_frees b id k n keeps s place said =
    let it = place_at b.rollbacks id k place in
    let cs = claims_of b (slots b + k) in
    let after = after_release b (slots b + k) in
    let p = left_part b.holders (slots b + k) cs (s.once (slots b + k)) in
    let t = told_as b.entries after.holders (first_freed b.holders (slots b + k) cs) n keeps said in (
      subst (λ z. HasLeft b after (rollback_owner z)) it.is (place_left b k after.spare (left_after b.holders (slots b + k) cs) s it.there p.0 p.1),
      subst (λ z. IsFreed after n z) t.1 (is_freed after n (not_held after.holders n (freed_free b.holders (slots b + k) cs n t.0))),
    )

-- ---- a rollback waits for another member
same_claims : (rs : List Rollback) (hs : List (List Claim)) (k : ℕ) (r : Rollback) (id : ℕ) → r.id ≡ id_at rs k → rollback_claims (slice_set rs k r) hs id ≡ rollback_claims rs hs id
same_claims [] hs k r id e = refl
same_claims (q ∷ rs) [] zero r id e = refl
same_claims (q ∷ rs) [] (suc k) r id e = refl
same_claims (q ∷ rs) (c ∷ hs) zero r id e = ap (λ (z : ℕ). if z == id then c else rollback_claims rs hs id) e
same_claims (q ∷ rs) (c ∷ hs) (suc k) r id e = ap (λ (z : List Claim). if q.id == id then c else z) (same_claims rs hs k r id e)

same_has : (rs : List Rollback) (k : ℕ) (r : Rollback) (id : ℕ) → r.id ≡ id_at rs k → has_id (slice_set rs k r) id ≡ has_id rs id
same_has [] k r id e = refl
same_has (q ∷ rs) zero r id e = ap (λ (z : ℕ). (z == id) || has_id rs id) e
same_has (q ∷ rs) (suc k) r id e = ap (λ (z : Bool). (q.id == id) || z) (same_has rs k r id e)

same_apart : (rs : List Rollback) (k : ℕ) (r : Rollback) → r.id ≡ id_at rs k → AreApart rs → AreApart (slice_set rs k r)
same_apart [] k r e a = tt
same_apart (q ∷ rs) zero r e a = (subst (λ z. has_id rs z ≡ false) (sym e) a.0, a.1)
same_apart (q ∷ rs) (suc k) r e a = (same_has rs k r q.id e ∙ a.0, same_apart rs k r e a.1)

pub rollback_waits : RollbackWaits
rollback_waits b id k by s place =
    let it = place_at b.rollbacks id k place in
    let r : Rollback = record { id = id; by = by } in (
      λ o c. ap (λ (z : List Claim). mode_in (if is_slot o then (if nat_lt o (b.agents + 1) then slice_index_or b.holders o [] else []) else z) (name_at c)) (same_claims b.rollbacks (drop (slots b) b.holders) k r (o - 17) (sym it.is)),
      record { owners = s.owners ∙ ap (λ z. slots b + z) (sym (set_length b.rollbacks k r)); few = s.few; once = s.once; apart = same_apart b.rollbacks k r (sym it.is) s.apart },
    )

-- ---- a rollback is over
none_there : (rs : List Rollback) (hs : List (List Claim)) (id : ℕ) → has_id rs id ≡ false → rollback_claims rs hs id ≡ []
none_there [] hs id e = refl
none_there (r ∷ rs) [] id e = refl
none_there (r ∷ rs) (c ∷ hs) id e = let p = or_parts (r.id == id) (has_id rs id) e in cond-false (r.id == id) c (rollback_claims rs hs id) p.0 ∙ none_there rs hs id p.1

gone_first : (r : Rollback) (rs : List Rollback) (c : List Claim) (hs : List (List Claim)) (id : ℕ) → has_id rs r.id ≡ false → rollback_claims rs hs id ≡ (if id == r.id then [] else if r.id == id then c else rollback_claims rs hs id)
gone_first r rs c hs id none = by (id == r.id) refl
  where
    by : (b : Bool) → (id == r.id) ≡ b → rollback_claims rs hs id ≡ (if b then [] else if r.id == id then c else rollback_claims rs hs id)
    by true t = none_there rs hs id (subst (λ z. has_id rs z ≡ false) (sym (eqb-true id r.id t)) none)
    by false f = sym (cond-false (r.id == id) c (rollback_claims rs hs id) (eqb_turn r.id id ∙ f))

rollback_removed : (rs : List Rollback) (hs : List (List Claim)) (k id : ℕ) → AreApart rs → length rs ≡ length hs → k < length rs → rollback_claims (remove rs k) (remove hs k) id ≡ (if id == id_at rs k then [] else rollback_claims rs hs id)
rollback_removed [] hs k id a e lt = absurd (omega (arith, lt))
rollback_removed (r ∷ rs) [] k id a e lt = absurd (omega (arith, e))
rollback_removed (r ∷ rs) (c ∷ hs) zero id a e lt = gone_first r rs c hs id a.0
rollback_removed (r ∷ rs) (c ∷ hs) (suc k) id a e lt =
    ap (λ (z : List Claim). if r.id == id then c else z) (rollback_removed rs hs k id a.1 (omega (arith, e)) (omega (arith, lt)))
    ∙ pick_swapped (r.id == id) (id == id_at rs k) c [] (rollback_claims rs hs id) (λ d q. first_apart r rs k a.0 (omega (arith, lt)) (eqb-true r.id id d ∙ eqb-true id (id_at rs k) q))

remove_none : {A : Type 0} → (at : ℕ) → ◌≡◌ {A = List A} (remove [] at) []
remove_none zero = refl
remove_none (suc at) = refl

drop_remove : {A : Type 0} → (xs : List A) (n k at : ℕ) → at ≡ n + k → drop n (remove xs at) ≡ remove (drop n xs) k
drop_remove xs zero k at e = ap (λ z. remove xs z) (omega (arith, e))
drop_remove [] (suc n) k at e = ap (λ z. drop (suc n) z) (remove_none at) ∙ sym (remove_none k)
drop_remove (x ∷ xs) (suc n) k zero e = absurd (omega (arith, e))
drop_remove (x ∷ xs) (suc n) k (suc at) e = drop_remove xs n k at (omega (arith, e))

remove_before : {A : Type 0} → (xs : List A) (at o : ℕ) (d : A) → o < at → slice_index_or (remove xs at) o d ≡ slice_index_or xs o d
remove_before [] at o d lt = ap (λ z. slice_index_or z o d) (remove_none at)
remove_before (x ∷ xs) zero o d lt = absurd (omega (arith, lt))
remove_before (x ∷ xs) (suc at) zero d lt = refl
remove_before (x ∷ xs) (suc at) (suc o) d lt = remove_before xs at o d (omega (arith, lt))

remove_length : {A : Type 0} → (xs : List A) (at : ℕ) → at < length xs → length (remove xs at) + 1 ≡ length xs
remove_length [] at lt = absurd (omega (arith, lt))
remove_length (x ∷ xs) zero lt = omega arith
remove_length (x ∷ xs) (suc at) lt = let ih = remove_length xs at (omega (arith, lt)) in omega (arith, ih)

remove_set : {A : Type 0} → (xs : List A) (at : ℕ) (a : A) → remove (slice_set xs at a) at ≡ remove xs at
remove_set [] at a = refl
remove_set (x ∷ xs) zero a = refl
remove_set (x ∷ xs) (suc at) a = ap (λ z. x ∷ z) (remove_set xs at a)

once_removed : (hs : List (List Claim)) (at : ℕ) → ((i : ℕ) → AreDistinct (slice_index_or hs i [])) → (i : ℕ) → AreDistinct (slice_index_or (remove hs at) i [])
once_removed [] at each i = subst (λ z. AreDistinct (slice_index_or z i [])) (sym (remove_none at)) (each i)
once_removed (c ∷ hs) zero each i = each (suc i)
once_removed (c ∷ hs) (suc at) each zero = each zero
once_removed (c ∷ hs) (suc at) each (suc i) = once_removed hs at (λ j. each (suc j)) i

has_removed : (rs : List Rollback) (k id : ℕ) → has_id rs id ≡ false → has_id (remove rs k) id ≡ false
has_removed [] k id e = ap (λ z. has_id z id) (remove_none k)
has_removed (r ∷ rs) zero id e = (or_parts (r.id == id) (has_id rs id) e).1
has_removed (r ∷ rs) (suc k) id e = let p = or_parts (r.id == id) (has_id rs id) e in ap (λ (z : Bool). z || has_id (remove rs k) id) p.0 ∙ has_removed rs k id p.1

apart_removed : (rs : List Rollback) (k : ℕ) → AreApart rs → AreApart (remove rs k)
apart_removed [] k a = subst (λ z. AreApart z) (sym (remove_none k)) tt
apart_removed (r ∷ rs) zero a = a.1
apart_removed (r ∷ rs) (suc k) a = (has_removed rs k r.id a.0, apart_removed rs k a.1)

dropped_claims : (b : Book) (k o : ℕ) → IsBook b → k < length b.rollbacks → claims_by (dropped b (Some k)) o ≡ (if o == rollback_owner (id_at b.rollbacks k) then [] else claims_by b o)
dropped_claims b k o s lt = ap (λ z. claims_from z (remove b.rollbacks k) b.agents o) (remove_set b.holders (slots b + k) []) ∙ elim (owner_is o) [
  | inl slot ↦ slots_same (remove b.holders (slots b + k)) b.holders (remove b.rollbacks k) b.rollbacks b.agents o slot (λ below. remove_before b.holders (slots b + k) o [] (before o below))
      ∙ sym (cond-false (o == rollback_owner (id_at b.rollbacks k)) [] (claims_by b o) (ne_eqb o (rollback_owner (id_at b.rollbacks k)) (low o (id_at b.rollbacks k) (leb-true o 16 slot))))
  | inr r ↦ subst (λ z. claims_from (remove b.holders (slots b + k)) (remove b.rollbacks k) b.agents z ≡ (if z == rollback_owner (id_at b.rollbacks k) then [] else claims_by b z)) (sym r.1) (rollback r.0)
]
  where
    before : (o : ℕ) → o < b.agents + 1 → o < slots b + k
    before o below = omega (arith, below)

    low : (o id : ℕ) → o ≤ 16 → o ≢ id + 17
    low o id le e = omega (arith, le, e)

    rollback : (id : ℕ) → claims_from (remove b.holders (slots b + k)) (remove b.rollbacks k) b.agents (id + 17) ≡ (if id + 17 == rollback_owner (id_at b.rollbacks k) then [] else claims_by b (id + 17))
    rollback id =
        rollback_owner_claims (remove b.holders (slots b + k)) (remove b.rollbacks k) b.agents id
        ∙ ap (λ z. rollback_claims (remove b.rollbacks k) z id) (drop_remove b.holders (slots b) k (slots b + k) refl)
        ∙ rollback_removed b.rollbacks (drop (slots b) b.holders) k id s.apart (sym (drop_length b.holders (slots b) (length b.rollbacks) s.owners)) lt
        ∙ ap (λ (z : Bool). if z then [] else rollback_claims b.rollbacks (drop (slots b) b.holders) id) (plus_eqb id (id_at b.rollbacks k))
        ∙ ap (λ (z : List Claim). if id + 17 == rollback_owner (id_at b.rollbacks k) then [] else z) (sym (rollback_owner_claims b.holders b.rollbacks b.agents id))

one_less : (all set gone n rollbacks left : ℕ) → set ≡ all → gone + 1 ≡ set → left + 1 ≡ rollbacks → all ≡ n + rollbacks → gone ≡ n + left
one_less all set gone n rollbacks left a b c d = omega (arith, a, b, c, d)

one_more : (all set more n rollbacks left : ℕ) → set ≡ all → more ≡ set + 1 → left ≡ rollbacks + 1 → all ≡ n + rollbacks → more ≡ n + left
one_more all set more n rollbacks left a b c d = omega (arith, a, b, c, d)

none_or : (x : Option Mode) → x ≡ None → (y : Option Mode) → x ≡ (if is_none x then None else y)
none_or None e y = refl
none_or (Some m) e y = cc

pub rollback_ends : RollbackEnds
rollback_ends b id k s place =
    let it = place_at b.rollbacks id k place in
    subst (λ z. HasLeft b (dropped b (Some k)) (rollback_owner z) × ((c : ℕ) → claim_in (dropped b (Some k)) (rollback_owner z) c ≡ None)) it.is (record { others = others it.there; own = λ c. none_or (claim_in (dropped b (Some k)) owner c) (gone it.there c) (claim_in b owner c); stands = stands it.there }, gone it.there)
  where
    owner : ℕ
    owner = rollback_owner (id_at b.rollbacks k)

    others : k < length b.rollbacks → (o c : ℕ) → o ≢ owner → claim_in (dropped b (Some k)) o c ≡ claim_in b o c
    others lt o c ne = ap (λ z. mode_in z (name_at c)) (dropped_claims b k o s lt ∙ cond-false (o == owner) [] (claims_by b o) (ne_eqb o owner ne))

    gone : k < length b.rollbacks → (c : ℕ) → claim_in (dropped b (Some k)) owner c ≡ None
    gone lt c = ap (λ z. mode_in z (name_at c)) (dropped_claims b k owner s lt ∙ cond-true (owner == owner) [] (claims_by b owner) (eq-eqb owner owner refl))

    stands : k < length b.rollbacks → IsBook (dropped b (Some k))
    stands lt =
        let long = set_length b.holders (slots b + k) [] in
        let holders = remove_length (slice_set b.holders (slots b + k) []) (slots b + k) (omega (arith, lt, long, s.owners)) in
        let rollbacks = remove_length b.rollbacks k lt in
        record {
          owners = one_less (length b.holders) (length (slice_set b.holders (slots b + k) [])) (length (remove (slice_set b.holders (slots b + k) []) (slots b + k))) (slots b) (length b.rollbacks) (length (remove b.rollbacks k)) long holders rollbacks s.owners;
          few = s.few;
          once = once_removed (slice_set b.holders (slots b + k) []) (slots b + k) (once_set b.holders (slots b + k) [] tt s.once);
          apart = apart_removed b.rollbacks k s.apart;
        }

-- ---- a rollback is postponed
rollback_pushed : (rs : List Rollback) (hs : List (List Claim)) (r : Rollback) (cs : List Claim) (id : ℕ) → has_id rs r.id ≡ false → length rs ≡ length hs → rollback_claims (rs ++ r ∷ []) (hs ++ cs ∷ []) id ≡ (if id == r.id then cs else rollback_claims rs hs id)
rollback_pushed [] [] r cs id none e = ap (λ (b : Bool). if b then cs else []) (eqb_turn r.id id)
rollback_pushed [] (c ∷ hs) r cs id none e = absurd (omega (arith, e))
rollback_pushed (q ∷ rs) [] r cs id none e = absurd (omega (arith, e))
rollback_pushed (q ∷ rs) (c ∷ hs) r cs id none e =
    let p = or_parts (q.id == r.id) (has_id rs r.id) none in
    ap (λ (z : List Claim). if q.id == id then c else z) (rollback_pushed rs hs r cs id p.1 (omega (arith, e)))
    ∙ pick_swapped (q.id == id) (id == r.id) c cs (rollback_claims rs hs id) (λ d f. both_ways (q.id == r.id) p.0 (eq-eqb q.id r.id (eqb-true q.id id d ∙ eqb-true id r.id f)))

drop_pushed : {A : Type 0} → (xs : List A) (n : ℕ) (ys : List A) → n ≤ length xs → drop n (xs ++ ys) ≡ drop n xs ++ ys
drop_pushed xs zero ys le = refl
drop_pushed [] (suc n) ys le = absurd (omega (arith, le))
drop_pushed (x ∷ xs) (suc n) ys le = drop_pushed xs n ys (omega (arith, le))

index_pushed : {A : Type 0} → (xs : List A) (ys : List A) (i : ℕ) (d : A) → i < length xs → slice_index_or (xs ++ ys) i d ≡ slice_index_or xs i d
index_pushed [] ys i d lt = absurd (omega (arith, lt))
index_pushed (x ∷ xs) ys zero d lt = refl
index_pushed (x ∷ xs) ys (suc i) d lt = index_pushed xs ys i d (omega (arith, lt))

once_pushed : (hs : List (List Claim)) (cs : List Claim) → AreDistinct cs → ((i : ℕ) → AreDistinct (slice_index_or hs i [])) → (i : ℕ) → AreDistinct (slice_index_or (hs ++ cs ∷ []) i [])
once_pushed [] cs d each zero = d
once_pushed [] cs d each (suc i) = tt
once_pushed (c ∷ hs) cs d each zero = each zero
once_pushed (c ∷ hs) cs d each (suc i) = once_pushed hs cs d (λ j. each (suc j)) i

length_pushed : {A : Type 0} → (xs : List A) (y : A) → length (xs ++ y ∷ []) ≡ length xs + 1
length_pushed [] y = refl
length_pushed (x ∷ xs) y = let ih = length_pushed xs y in omega (arith, ih)

has_pushed : (rs : List Rollback) (r : Rollback) (id : ℕ) → has_id rs id ≡ false → (r.id == id) ≡ false → has_id (rs ++ r ∷ []) id ≡ false
has_pushed [] r id e f = ap (λ (z : Bool). z || false) f
has_pushed (q ∷ rs) r id e f = let p = or_parts (q.id == id) (has_id rs id) e in ap (λ (z : Bool). z || has_id (rs ++ r ∷ []) id) p.0 ∙ has_pushed rs r id p.1 f

apart_pushed : (rs : List Rollback) (r : Rollback) → AreApart rs → has_id rs r.id ≡ false → AreApart (rs ++ r ∷ [])
apart_pushed [] r a e = (refl, tt)
apart_pushed (q ∷ rs) r a e = let p = or_parts (q.id == r.id) (has_id rs r.id) e in (has_pushed rs r q.id a.0 (eqb_turn r.id q.id ∙ p.0), apart_pushed rs r a.1 p.1)

postponed_claims : (b : Book) (slot id by o : ℕ) → IsBook b → slot < slots b → has_id b.rollbacks id ≡ false
    → claims_by (after_postpone b slot id by) o ≡ (if o == rollback_owner id then claims_of b slot else if o == slot then [] else claims_by b o)
postponed_claims b slot id by o s lt new = elim (owner_is o) [
  | inl here ↦ slots_same (slice_set b.holders slot [] ++ claims_of b slot ∷ []) (slice_set b.holders slot []) (b.rollbacks ++ record { id = id; by = by } ∷ []) b.rollbacks b.agents o here (λ below. index_pushed (slice_set b.holders slot []) (claims_of b slot ∷ []) o [] (within o below))
      ∙ slot_set b.holders b.rollbacks b.agents slot [] o s.few lt (omega (arith, lt, s.owners))
      ∙ sym (cond-false (o == rollback_owner id) (claims_of b slot) (if o == slot then [] else claims_by b o) (ne_eqb o (rollback_owner id) (low o id (leb-true o 16 here))))
  | inr r ↦ subst (λ z. claims_by (after_postpone b slot id by) z ≡ (if z == rollback_owner id then claims_of b slot else if z == slot then [] else claims_by b z)) (sym r.1) (rollback r.0)
]
  where
    low : (o id : ℕ) → o ≤ 16 → o ≢ id + 17
    low o id le e = omega (arith, le, e)

    within : (o : ℕ) → o < b.agents + 1 → o < length (slice_set b.holders slot [])
    within o below = let long = set_length b.holders slot [] in omega (arith, below, long, s.owners)

    apart : (j : ℕ) → j + 17 ≢ slot
    apart j e = omega (arith, e, lt, s.few)

    rollback : (j : ℕ) → claims_by (after_postpone b slot id by) (j + 17) ≡ (if j + 17 == rollback_owner id then claims_of b slot else if j + 17 == slot then [] else claims_by b (j + 17))
    rollback j =
        let long = set_length b.holders slot [] in
        let rests : drop (slots b) (slice_set b.holders slot [] ++ claims_of b slot ∷ []) ≡ drop (slots b) b.holders ++ claims_of b slot ∷ [] =
        drop_pushed (slice_set b.holders slot []) (slots b) (claims_of b slot ∷ []) (omega (arith, long, s.owners)) ∙ ap (λ z. z ++ claims_of b slot ∷ []) (drop_set b.holders (slots b) slot [] lt) in
        rollback_owner_claims (slice_set b.holders slot [] ++ claims_of b slot ∷ []) (b.rollbacks ++ record { id = id; by = by } ∷ []) b.agents j
        ∙ ap (λ z. rollback_claims (b.rollbacks ++ record { id = id; by = by } ∷ []) z j) rests
        ∙ rollback_pushed b.rollbacks (drop (slots b) b.holders) (record { id = id; by = by }) (claims_of b slot) j new (sym (drop_length b.holders (slots b) (length b.rollbacks) s.owners))
        ∙ ap (λ (z : Bool). if z then claims_of b slot else rollback_claims b.rollbacks (drop (slots b) b.holders) j) (plus_eqb j id)
        ∙ ap (λ (z : List Claim). if j + 17 == rollback_owner id then claims_of b slot else z) (sym (rollback_owner_claims b.holders b.rollbacks b.agents j) ∙ sym (cond-false (j + 17 == slot) [] (claims_by b (j + 17)) (ne_eqb (j + 17) slot (apart j))))

has_place : (rs : List Rollback) (k id : ℕ) → is_some (place_in rs k id) ≡ has_id rs id
has_place [] k id = refl
has_place (r ∷ rs) k id = by (has_place rs (k + 1) id) (r.id == id)
  where
    by : is_some (place_in rs (k + 1) id) ≡ has_id rs id → (b : Bool) → is_some (if b then Some k else place_in rs (k + 1) id) ≡ (b || has_id rs id)
    by ih true = refl
    by ih false = ih

pub postponed_hands_on : PostponedHandsOn
postponed_hands_on b slot id by s lt free = record {
  new = λ c. ap (λ z. mode_in z (name_at c)) (rollback_owner_claims b.holders b.rollbacks b.agents id ∙ none_there b.rollbacks (drop (slots b) b.holders) id new);
  given = λ c. ap (λ z. mode_in z (name_at c)) (postponed_claims b slot id by (rollback_owner id) s lt new ∙ cond-true (rollback_owner id == rollback_owner id) (claims_of b slot) (if rollback_owner id == slot then [] else claims_by b (rollback_owner id)) (eq-eqb (rollback_owner id) (rollback_owner id) refl) ∙ sym (slot_claims b slot s lt));
  gone = λ c. ap (λ z. mode_in z (name_at c)) (postponed_claims b slot id by slot s lt new ∙ cond-false (slot == rollback_owner id) (claims_of b slot) (if slot == slot then [] else claims_by b slot) (ne_eqb slot (rollback_owner id) (apart id)) ∙ cond-true (slot == slot) [] (claims_by b slot) (eq-eqb slot slot refl));
  rest = λ o c ne other. ap (λ z. mode_in z (name_at c)) (postponed_claims b slot id by o s lt new ∙ cond-false (o == rollback_owner id) (claims_of b slot) (if o == slot then [] else claims_by b o) (ne_eqb o (rollback_owner id) other) ∙ cond-false (o == slot) [] (claims_by b o) (ne_eqb o slot ne));
  stands = record {
    owners =
        let long = set_length b.holders slot [] in
        let holders = length_pushed (slice_set b.holders slot []) (claims_of b slot) in
        let rollbacks = length_pushed b.rollbacks (record { id = id; by = by }) in
        one_more (length b.holders) (length (slice_set b.holders slot [])) (length (slice_set b.holders slot [] ++ claims_of b slot ∷ [])) (slots b) (length b.rollbacks) (length (b.rollbacks ++ record { id = id; by = by } ∷ [])) long holders rollbacks s.owners;
    few = s.few;
    once = once_pushed (slice_set b.holders slot []) (claims_of b slot) (s.once slot) (once_set b.holders slot [] tt s.once);
    apart = apart_pushed b.rollbacks (record { id = id; by = by }) s.apart new;
  };
}
  where
    new : has_id b.rollbacks id ≡ false
    new = sym (has_place b.rollbacks 0 id) ∙ free

    apart : (j : ℕ) → slot ≢ j + 17
    apart j e = omega (arith, e, lt, s.few)
