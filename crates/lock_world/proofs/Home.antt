-- What an owner is told of a need: that the member's own claims cover it, or that the facility is to be asked.
use Rattle.std.proofs.Common.{◌≡◌, ℕ, zero, suc, ◌+◌, ◌≤◌, ◌<◌, refl, sym, ◌∙◌, ap, subst, arith, Bool, true, false, inl, inr, List, [], ◌∷◌, length, Option, Some, None}
use Rattle.std.specs.Prelude.{◌≢◌, ◌⊎◌, ◌-◌, ◌==◌, ◌&&◌, not, if◌then◌else◌, nat_lt, slice_index_or}
use Rattle.std.proofs.lemmas.Bool.{cond_both, cases_Bool, both_ways, ne_eqb, ltb-true, ltb-false}
use Rattle.std.proofs.lemmas.List.{get_or_past}
use Rattle.ds_model.specs.declared.lock.Name.{Name}
use Rattle.lock_names.specs.declared.mode.Mode.{Mode}
use Rattle.lock_names.specs.Modes.{are_compatible, is_covering, is_same, join_of}
use Rattle.lock_manager.specs.declared.claim.Ask.{Ask}
use Rattle.lock_manager.specs.declared.claim.Ask.TheVariants as ask
use Rattle.lock_manager.specs.declared.claim.Claim.{Claim}
use Rattle.lock_manager.specs.Claims.{mode_in, joined, joined_both, is_covered, is_in_way}
use Rattle.lock_manager.specs.Holders.{first_in_way, mode_of_all}
use Rattle.lock_manager.specs.Managers.{Book, slots, held_by, held_by_member, waited_for, ask_among, ask_of}
use Rattle.lock_protocol.specs.Machine.{both_allowed, Covers}
use Rattle.lock_protocol.specs.Words.{JoinIsOne}
use Rattle.lock_world.specs.Numbers.{number, name_at}
use Rattle.lock_world.specs.Views.{claims_by, claim_in}
use Rattle.lock_world.specs.Books.{IsBook, Covered, HomeTells, FreeAtHome, FacilityTells}
use Rattle.lock_world.proofs.Numbers.{named}
use Rattle.lock_world.proofs.Grants.{same_mode}
use Rattle.lock_world.proofs.Records.{no_way}
use Rattle.lock_world.proofs.Owners.{each_other}
use Rattle.lock_world.proofs.Places.{owner_at, owner_claims, owners_apart}

-- ---- what was told
is_home : (b : Book) (slot : ℕ) (n : Name) (m : Mode) → ask_of b slot n m ≡ ask.Local
    → (first_in_way b.holders 0 (Some slot) n (joined (held_by b slot n) m) ≡ None) × (is_covered (held_by_member b n) (joined (held_by b slot n) m) ≡ true)
is_home b slot n m e = by (is_covered (held_by b slot n) m) e
  where
    mode : Mode
    mode = joined (held_by b slot n) m

    have_home : ask.Have ≡ ask.Local → ⊥
    have_home x = cc

    more_home : ask.Facility mode ≡ ask.Local → ⊥
    more_home x = cc

    held_home : (k : ℕ) → ask.Conflict k ≡ ask.Local → ⊥
    held_home k x = cc

    waits_home : (k : ℕ) → ask.Postponed (waited_for b k) ≡ ask.Local → ⊥
    waits_home k x = cc

    other_home : (k : ℕ) (c : Bool) → (if c then ask.Conflict k else ask.Postponed (waited_for b k)) ≡ ask.Local → ⊥
    other_home k true x = held_home k x
    other_home k false x = waits_home k x

    covered : (c : Bool) → (if c then ask.Local else ask.Facility mode) ≡ ask.Local → c ≡ true
    covered true x = refl
    covered false x = absurd (more_home x)

    among : (o : Option ℕ) → ask_among b n mode o ≡ ask.Local → (o ≡ None) × (is_covered (held_by_member b n) mode ≡ true)
    among None x = (refl, covered (is_covered (held_by_member b n) mode) x)
    among (Some k) x = absurd (other_home k (nat_lt k (slots b)) x)

    by : (c : Bool) → (if c then ask.Have else ask_among b n mode (first_in_way b.holders 0 (Some slot) n mode)) ≡ ask.Local
        → (first_in_way b.holders 0 (Some slot) n mode ≡ None) × (is_covered (held_by_member b n) mode ≡ true)
    by true x = absurd (have_home x)
    by false x = among (first_in_way b.holders 0 (Some slot) n mode) x

is_far : (b : Book) (slot : ℕ) (n : Name) (m more : Mode) → ask_of b slot n m ≡ ask.Facility more → first_in_way b.holders 0 (Some slot) n (joined (held_by b slot n) m) ≡ None
is_far b slot n m more e = by (is_covered (held_by b slot n) m) e
  where
    mode : Mode
    mode = joined (held_by b slot n) m

    have_far : ask.Have ≡ ask.Facility more → ⊥
    have_far x = cc

    held_far : (k : ℕ) → ask.Conflict k ≡ ask.Facility more → ⊥
    held_far k x = cc

    waits_far : (k : ℕ) → ask.Postponed (waited_for b k) ≡ ask.Facility more → ⊥
    waits_far k x = cc

    other_far : (k : ℕ) (c : Bool) → (if c then ask.Conflict k else ask.Postponed (waited_for b k)) ≡ ask.Facility more → ⊥
    other_far k true x = held_far k x
    other_far k false x = waits_far k x

    among : (o : Option ℕ) → ask_among b n mode o ≡ ask.Facility more → o ≡ None
    among None x = refl
    among (Some k) x = absurd (other_far k (nat_lt k (slots b)) x)

    by : (c : Bool) → (if c then ask.Have else ask_among b n mode (first_in_way b.holders 0 (Some slot) n mode)) ≡ ask.Facility more → first_in_way b.holders 0 (Some slot) n mode ≡ None
    by true x = absurd (have_far x)
    by false x = among (first_in_way b.holders 0 (Some slot) n mode) x

-- ---- no other owner is in the way
some_none : (k : ℕ) → Some k ≡ None → ⊥
some_none k e = cc

not_first : (t : Bool) (k : ℕ) (rest : Option ℕ) → (if t then Some k else rest) ≡ None → (t ≡ false) × (rest ≡ None)
not_first true k rest e = absurd (some_none k e)
not_first false k rest e = (refl, e)

other_way : (own x : Bool) → own ≡ false → (not own && x) ≡ false → x ≡ false
other_way false x e h = h
other_way true x e h = cc

none_other : (hs : List (List Claim)) (k slot : ℕ) (n : Name) (m : Mode) → first_in_way hs k (Some slot) n m ≡ None → (i : ℕ) → k + i ≢ slot → is_in_way (mode_in (slice_index_or hs i []) n) m ≡ false
none_other [] k slot n m e i ne = refl
none_other (cs ∷ rest) k slot n m e zero ne =
    let f = not_first (not (k == slot) && is_in_way (mode_in cs n) m) k (first_in_way rest (k + 1) (Some slot) n m) e in
    other_way (k == slot) (is_in_way (mode_in cs n) m) (ne_eqb k slot (λ x. ne (with_zero k slot x))) f.0
  where
    with_zero : (k slot : ℕ) → k ≡ slot → k + zero ≡ slot
    with_zero k slot x = omega (arith, x)
none_other (cs ∷ rest) k slot n m e (suc i) ne =
    let f = not_first (not (k == slot) && is_in_way (mode_in cs n) m) k (first_in_way rest (k + 1) (Some slot) n m) e in
    none_other rest (k + 1) slot n m f.1 i (λ x. ne (one_more k i slot x))
  where
    one_more : (k i slot : ℕ) → k + 1 + i ≡ slot → k + suc i ≡ slot
    one_more k i slot x = omega (arith, x)

free_others : (b : Book) (slot : ℕ) (n : Name) (m : Mode) → slot < slots b → first_in_way b.holders 0 (Some slot) n m ≡ None → (q : ℕ) → q ≢ slot → is_in_way (claim_in b q (number n)) m ≡ false
free_others b slot n m lt e q ne = subst (λ x. is_in_way (mode_in (claims_by b q) x) m ≡ false) (sym (named n))
    (each_other (λ cs. is_in_way (mode_in cs n) m ≡ false) b.holders b.rollbacks b.agents slot q refl lt (λ i other. none_other b.holders 0 slot n m e i (λ x. other (from_zero i slot x))) ne)
  where
    from_zero : (i slot : ℕ) → 0 + i ≡ slot → i ≡ slot
    from_zero i slot x = omega (arith, x)

pub free_at_home : FreeAtHome
free_at_home b slot n m lt e = free_others b slot n (joined (held_by b slot n) m) lt (is_home b slot n m e).0

pub facility_tells : FacilityTells
facility_tells b slot n m more lt e = free_others b slot n (joined (held_by b slot n) m) lt (is_far b slot n m more e)

-- ---- the join of claims that don't conflict is one of them
one_of : JoinIsOne → (a b : Option Mode) → both_allowed a b ≡ true → (joined_both a b ≡ a) ⊎ (joined_both a b ≡ b)
one_of law a None h = inl refl
one_of law None (Some m) h = inr refl
one_of law (Some x) (Some m) h = elim (law x m h) [
  | inl e ↦ inl (ap Some e)
  | inr e ↦ inr (ap Some e)
]

all_one : JoinIsOne → (hs : List (List Claim)) (n : Name) (acc : Option Mode) (x : Mode)
    → ((i : ℕ) → both_allowed acc (mode_in (slice_index_or hs i []) n) ≡ true)
    → ((i j : ℕ) → i ≢ j → both_allowed (mode_in (slice_index_or hs i []) n) (mode_in (slice_index_or hs j []) n) ≡ true)
    → mode_of_all acc hs n ≡ Some x → (acc ≡ Some x) ⊎ ((i : ℕ) × (mode_in (slice_index_or hs i []) n ≡ Some x))
all_one law [] n acc x first each e = inl e
all_one law (cs ∷ rest) n acc x first each e = elim (one_of law acc (mode_in cs n) (first 0)) [
  | inl same ↦ elim (all_one law rest n acc x (λ i. first (suc i)) (λ i j ne. each (suc i) (suc j) (λ f. ne (pred_same i j f))) (subst (λ z. mode_of_all z rest n ≡ Some x) same e)) [
    | inl a ↦ inl a
    | inr r ↦ inr (suc r.0, r.1)
  ]
  | inr same ↦ elim (all_one law rest n (mode_in cs n) x (λ i. each 0 (suc i) (zero_apart i)) (λ i j ne. each (suc i) (suc j) (λ f. ne (pred_same i j f))) (subst (λ z. mode_of_all z rest n ≡ Some x) same e)) [
    | inl a ↦ inr (0, a)
    | inr r ↦ inr (suc r.0, r.1)
  ]
]
  where
    pred_same : (i j : ℕ) → suc i ≡ suc j → i ≡ j
    pred_same i j f = omega (arith, f)

    zero_apart : (i : ℕ) → 0 ≢ suc i
    zero_apart i f = omega (arith, f)

none_first : (x : Option Mode) → both_allowed None x ≡ true
none_first None = refl
none_first (Some m) = refl

-- at places, from owners
places_allowed : (b : Book) (n : Name) → IsBook b → ((o q c : ℕ) → o ≢ q → both_allowed (claim_in b o c) (claim_in b q c) ≡ true)
    → (i j : ℕ) → i ≢ j → both_allowed (mode_in (slice_index_or b.holders i []) n) (mode_in (slice_index_or b.holders j []) n) ≡ true
places_allowed b n s apart i j ne = by (nat_lt i (length b.holders)) (nat_lt j (length b.holders)) refl refl
  where
    at : (i : ℕ) → i < length b.holders → claim_in b (owner_at b i) (number n) ≡ mode_in (slice_index_or b.holders i []) n
    at i lt = ap (λ z. mode_in (claims_by b (owner_at b i)) z) (named n) ∙ ap (λ z. mode_in z n) (owner_claims b i s lt)

    none_at : (i : ℕ) → length b.holders ≤ i → mode_in (slice_index_or b.holders i []) n ≡ None
    none_at i le = ap (λ z. mode_in z n) (get_or_past b.holders i [] le)

    by : (p q : Bool) → nat_lt i (length b.holders) ≡ p → nat_lt j (length b.holders) ≡ q → both_allowed (mode_in (slice_index_or b.holders i []) n) (mode_in (slice_index_or b.holders j []) n) ≡ true
    by p false x y = subst (λ z. both_allowed (mode_in (slice_index_or b.holders i []) n) z ≡ true) (sym (none_at j (ltb-false j (length b.holders) y))) refl
    by false true x y = subst (λ z. both_allowed z (mode_in (slice_index_or b.holders j []) n) ≡ true) (sym (none_at i (ltb-false i (length b.holders) x))) (none_first (mode_in (slice_index_or b.holders j []) n))
    by true true x y =
        let a = ltb-true i (length b.holders) x in
        let c = ltb-true j (length b.holders) y in
        subst (λ z. both_allowed z (mode_in (slice_index_or b.holders j []) n) ≡ true) (at i a) (subst (λ z. both_allowed (claim_in b (owner_at b i) (number n)) z ≡ true) (at j c) (apart (owner_at b i) (owner_at b j) (number n) (owners_apart b i j s a c ne)))

covers_of : (held : Option Mode) (m : Mode) → is_covered held m ≡ true → (x : Mode) × (held ≡ Some x) × (join_of x m ≡ x)
covers_of None m e = absurd (no_way e)
covers_of (Some x) m e = (x, refl, same_mode (join_of x m) x e)

pub home_tells : JoinIsOne → HomeTells
home_tells law b slot n m s lt apart e =
    let told = is_home b slot n m e in
    let c = covers_of (held_by_member b n) (joined (held_by b slot n) m) told.1 in
    record {
      covers = covers c.0 c.2 (all_one law b.holders n None c.0 (λ i. none_first (mode_in (slice_index_or b.holders i []) n)) (places_allowed b n s apart) c.1);
      free = free_others b slot n (joined (held_by b slot n) m) lt told.0;
    }
  where
    mode : Mode
    mode = joined (held_by b slot n) m

    no_mode : (x : Mode) → None ≡ Some x → ⊥
    no_mode x f = cc

    at_owner : (x : Mode) (i : ℕ) → join_of x mode ≡ x → mode_in (slice_index_or b.holders i []) n ≡ Some x → (q : ℕ) × Covers (claim_in b q (number n)) mode
    at_owner x i covers is = by (nat_lt i (length b.holders)) refl
      where
        by : (p : Bool) → nat_lt i (length b.holders) ≡ p → (q : ℕ) × Covers (claim_in b q (number n)) mode
        by true t = (owner_at b i, subst (λ z. Covers z mode) (sym (ap (λ z. mode_in (claims_by b (owner_at b i)) z) (named n) ∙ ap (λ z. mode_in z n) (owner_claims b i s (ltb-true i (length b.holders) t)) ∙ is)) covers)
        by false t = absurd (no_mode x (sym (ap (λ z. mode_in z n) (get_or_past b.holders i [] (ltb-false i (length b.holders) t))) ∙ is))

    covers : (x : Mode) → join_of x mode ≡ x → (None ≡ Some x) ⊎ ((i : ℕ) × (mode_in (slice_index_or b.holders i []) n ≡ Some x)) → (q : ℕ) × Covers (claim_in b q (number n)) mode
    covers x same (inl f) = absurd (no_mode x f)
    covers x same (inr r) = at_owner x r.0 same r.1
