-- The retained records of a member, in their order.
use Rattle.std.proofs.Common.{◌≡◌, ◌≢◌, ℕ, zero, suc, ◌<◌, true, false, List, [], ◌∷◌, ◌++◌, map, length, set, get_or, refl, sym, ◌∙◌, arith, if◌then◌else◌, ◌==◌, inl, inr}
use Rattle.std.specs.Prelude.{Some, None, is_some, ◌&&◌, slice_get}
use Rattle.std.proofs.lemmas.Bool.{cases_eq, ne_eqb}
use Rattle.std.proofs.lemmas.List.{set-get_or}
use Rattle.std.proofs.lemmas.Grind.{common_steps}
use Rattle.lock_names.specs.Given.{Name}
use Rattle.lock_names.specs.declared.mode.Mode.{Mode}
use Rattle.lock_names.specs.Entries.{entry_number}
use Rattle.lock_structure.specs.declared.chain.Record.{Record}
use Rattle.lock_names.proofs.Names.{same_itself}
use Rattle.lock_structure.specs.declared.chain.Held.{Held}
use Rattle.lock_structure.specs.Records.{record_in, retained_of, names_of, without_name, is_retained, joined, retained_by}
use Rattle.lock_structure.specs.Buckets.{IsUnique, IsHashed, flat, put_in, without, recorded_in, released_in, purged_in}
use Rattle.lock_structure.proofs.Chains.{same_record}
use Rattle.lock_structure.proofs.Counts.{absent_without}
use Rattle.lock_structure.proofs.Hashed.{record_append, all_none, place_bound, hashed_find, flat_retained, retained_append}

-- ---- no member has two records of a name, in whichever buckets

unique_append : (xs ys : List Held) → IsUnique xs → IsUnique ys → ((k : ℕ) (p : Name) → is_some (record_in xs k p) ≡ true → record_in ys k p ≡ None) → IsUnique (xs ++ ys)
unique_append [] ys u v d = v
unique_append (x ∷ xs) ys u v d =
    let self = same_itself x.name in
    let rest = d x.member x.name (grind (arith, self)) in
    let a = record_append xs ys x.member x.name in
    (grind (arith, a, rest, u.0), unique_append xs ys u.1 v (λ k p s. d k p (grind (arith, s))))

flat_unique : (cs : List (List Held)) → ((b : ℕ) → b < length cs → IsUnique (get_or cs b []))
    → ((i j k : ℕ) (p : Name) → i < length cs → j < length cs → i ≢ j → is_some (record_in (get_or cs i []) k p) ≡ true → record_in (get_or cs j []) k p ≡ None) → IsUnique (flat cs)
flat_unique [] u d = tt {0}
flat_unique (c ∷ cs) u d = unique_append c (flat cs) (u zero (omega arith))
    (flat_unique cs (λ b l. u (suc b) (omega (arith, l))) (λ i j k p l m ne s. d (suc i) (suc j) k p (omega (arith, l)) (omega (arith, m)) (λ q. ne (omega (arith, q))) s))
    (λ k p s. all_none cs k p (λ b l. d zero (suc b) k p (omega arith) (omega (arith, l)) (λ q. omega (arith, q)) s))

elsewhere : (cs : List (List Held)) (i j k : ℕ) (p : Name) → IsHashed cs → i < length cs → j < length cs → i ≢ j → is_some (record_in (get_or cs i []) k p) ≡ true → record_in (get_or cs j []) k p ≡ None
elsewhere cs i j k p h l m ne s = elim (cases_eq (entry_number p (length cs)) j) [
  | inl q ↦ let none = h.apart i k p l (ne_eqb (entry_number p (length cs)) i (λ r. ne (sym r ∙ q))) in grind (arith, none, s)
  | inr other ↦ h.apart j k p m (ne_eqb (entry_number p (length cs)) j other)
]

pub hashed_unique : (cs : List (List Held)) → IsHashed cs → IsUnique (flat cs)
hashed_unique cs h = flat_unique cs (λ b l. h.unique b l) (λ i j k p l m ne s. elsewhere cs i j k p h l m ne s)

-- ---- a retained record is the member's record of its name

found_in : (hs : List Held) (m i : ℕ) (x : Name × Mode) → IsUnique hs → slice_get (retained_of m hs) i ≡ Some x → record_in hs m x.0 ≡ Some (record { mode = x.1; retained = true })
found_in [] m i x u e = cc
found_in (h ∷ hs) m zero x u e =
    let ih = found_in hs m zero x u.1 in
    let self = same_itself h.name in
    let one = same_record hs m h.name x.0 in grind (arith, ih, self, one, u.0, e)
found_in (h ∷ hs) m (suc i) x u e =
    let here = found_in hs m (suc i) x u.1 in
    let later = found_in hs m i x u.1 in
    let one = same_record hs m h.name x.0 in grind (arith, here, later, one, u.0, e)

pub retained_found : (cs : List (List Held)) (m i : ℕ) (x : Name × Mode) → IsHashed cs → slice_get (retained_of m (flat cs)) i ≡ Some x → record_in (flat cs) m x.0 ≡ Some (record { mode = x.1; retained = true })
retained_found cs m i x h e = found_in (flat cs) m i x (hashed_unique cs h) e

-- ---- a record taken out

without_left : (xs ys : List Held) (m : ℕ) (n : Name) → record_in ys m n ≡ None → without (xs ++ ys) m n ≡ without xs m n ++ ys
without_left [] ys m n e = absent_without ys m n (grind (arith, e))
without_left (x ∷ xs) ys m n e = let ih = without_left xs ys m n e in grind (arith, ih, common_steps)

without_right : (xs ys : List Held) (m : ℕ) (n : Name) → record_in xs m n ≡ None → without (xs ++ ys) m n ≡ xs ++ without ys m n
without_right [] ys m n e = refl
without_right (x ∷ xs) ys m n e = let ih = without_right xs ys m n in grind (arith, ih, e, common_steps)

flat_without : (cs : List (List Held)) (b m : ℕ) (n : Name) → b < length cs → ((i : ℕ) → i < length cs → b ≢ i → record_in (get_or cs i []) m n ≡ None) → flat (set cs b (without (get_or cs b []) m n)) ≡ without (flat cs) m n
flat_without [] b m n l d = absurd (omega (arith, l))
flat_without (c ∷ cs) zero m n l d = sym (without_left c (flat cs) m n (all_none cs m n (λ i s. d (suc i) (omega (arith, s)) (λ q. omega (arith, q)))))
flat_without (c ∷ cs) (suc b) m n l d =
    let ih = flat_without cs b m n (omega (arith, l)) (λ i s ne. d (suc i) (omega (arith, s)) (λ q. ne (omega (arith, q)))) in
    let here = without_right c (flat cs) m n (d zero (omega arith) (λ q. omega (arith, q))) in rw (here, ih) refl

retained_without : (hs : List Held) (m : ℕ) (n : Name) (k : ℕ) → retained_of k (without hs m n) ≡ (if (k == m) && is_retained (record_in hs m n) then without_name n (retained_of k hs) else retained_of k hs)
retained_without [] m n k = grind arith
retained_without (h ∷ hs) m n k = let ih = retained_without hs m n k in grind (arith, ih)

-- ---- the order after a change of one bucket

names_append : (xs ys : List (Name × Mode)) → names_of (xs ++ ys) ≡ names_of xs ++ names_of ys
names_append [] ys = refl
names_append (x ∷ xs) ys = let ih = names_append xs ys in rw ih refl

flat_order : (cs : List (List Held)) (b k : ℕ) (ys : List Held) → b < length cs → retained_of k ys ≡ retained_of k (get_or cs b []) → retained_of k (flat (set cs b ys)) ≡ retained_of k (flat cs)
flat_order [] b k ys l e = absurd (omega (arith, l))
flat_order (c ∷ cs) zero k ys l e = rw (retained_append k ys (flat cs), retained_append k c (flat cs), e) refl
flat_order (c ∷ cs) (suc b) k ys l e = rw (retained_append k c (flat (set cs b ys)), retained_append k c (flat cs), flat_order cs b k ys (omega (arith, l)) e) refl

flat_names : (cs : List (List Held)) (b k : ℕ) (ys : List Held) → b < length cs → names_of (retained_of k ys) ≡ names_of (retained_of k (get_or cs b [])) → names_of (retained_of k (flat (set cs b ys))) ≡ names_of (retained_of k (flat cs))
flat_names [] b k ys l e = absurd (omega (arith, l))
flat_names (c ∷ cs) zero k ys l e = rw (retained_append k ys (flat cs), retained_append k c (flat cs), names_append (retained_of k ys) (retained_of k (flat cs)), names_append (retained_of k c) (retained_of k (flat cs)), e) refl
flat_names (c ∷ cs) (suc b) k ys l e = rw (retained_append k c (flat (set cs b ys)), retained_append k c (flat cs), names_append (retained_of k c) (retained_of k (flat (set cs b ys))), names_append (retained_of k c) (retained_of k (flat cs)), flat_names cs b k ys (omega (arith, l)) e) refl

names_put : (hs : List Held) (m : ℕ) (n : Name) (r : Record) (k : ℕ) → r.retained ≡ is_retained (record_in hs m n) → names_of (retained_of k (put_in hs m n r)) ≡ names_of (retained_of k hs)
names_put [] m n r k e = refl
names_put (h ∷ hs) m n r k e = let ih = names_put hs m n r k in grind (arith, ih, e)

pub recorded_names : (hs : List Held) (m : ℕ) (n : Name) (mode : Mode) (k : ℕ) → names_of (retained_of k (recorded_in hs m n mode)) ≡ names_of (retained_of k hs)
recorded_names hs m n mode k = let put = names_put hs m n (joined (record_in hs m n) mode) k in grind (arith, put)

pub released_list : (hs : List Held) (m : ℕ) (n : Name) (k : ℕ) → retained_of k (released_in hs m n) ≡ retained_of k hs
released_list hs m n k = let out = retained_without hs m n k in grind (arith, out)

pub recorded_order : (cs : List (List Held)) (at m : ℕ) (n : Name) (mode : Mode) (k : ℕ) → at < length cs → names_of (retained_of k (flat (set cs at (recorded_in (get_or cs at []) m n mode)))) ≡ names_of (retained_of k (flat cs))
recorded_order cs at m n mode k l = flat_names cs at k _ l (recorded_names (get_or cs at []) m n mode k)

pub released_order : (cs : List (List Held)) (at m : ℕ) (n : Name) (k : ℕ) → at < length cs → retained_of k (flat (set cs at (released_in (get_or cs at []) m n))) ≡ retained_of k (flat cs)
released_order cs at m n k l = flat_order cs at k _ l (released_list (get_or cs at []) m n k)

pub purged_order : (cs : List (List Held)) (at m : ℕ) (n : Name) (k : ℕ) → at ≡ entry_number n (length cs) → IsHashed cs
    → retained_of k (flat (set cs at (purged_in (get_or cs at []) m n))) ≡ (if (k == m) && is_retained (record_in (flat cs) m n) then without_name n (retained_of k (flat cs)) else retained_of k (flat cs))
purged_order cs at m n k e h =
    let place = entry_number n (length cs) in
    let found = hashed_find cs m n h in
    let out = flat_without cs place m n (place_bound cs n h.some) (λ i l ne. h.apart i m n l (ne_eqb place i ne)) in
    let list = retained_without (flat cs) m n k in
    let same = set-get_or cs place [] in rw e (grind (arith, found, out, list, same))
