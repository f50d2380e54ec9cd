-- The records of all buckets, name by name.
use Rattle.std.proofs.Common.{◌≡◌, ◌≢◌, ℕ, zero, suc, ◌+◌, ◌<◌, ◌≤◌, ◌^◌, Bool, false, List, [], ◌∷◌, ◌++◌, map, length, set, get_or, refl, arith, if◌then◌else◌, ◌==◌, inl, inr, subst, replicate}
use Rattle.std.specs.Prelude.{Option, None, is_some, ◌&&◌, ◌||◌, nat_lt, IsTrue}
use Rattle.std.proofs.lemmas.Bool.{cases_eq, ne_eqb}
use Rattle.std.proofs.lemmas.Nat.{mod_below}
use Rattle.std.proofs.lemmas.List.{get_or-set_other, get_or-set_same, length-set, length-map, length-replicate, map-append}
use Rattle.std.proofs.lemmas.Grind.{common_steps}
use Rattle.lock_names.specs.Given.{Name}
use Rattle.lock_names.specs.declared.mode.Mode.{Mode}
use Rattle.lock_names.specs.Entries.{entry_number}
use Rattle.lock_names.specs.Names.{same_name}
use Rattle.lock_names.proofs.Names.{same_entry}
use Rattle.lock_structure.specs.declared.chain.Record.{Record}
use Rattle.lock_structure.specs.declared.chain.Held.{Held}
use Rattle.lock_structure.specs.Records.{area_of, how_many, record_in, retained_of, joined, after_grant, after_release, after_purge, one_if, Alters, Retains, retained_by}
use Rattle.lock_structure.specs.Buckets.{IsUnique, IsHashed, flat, all_retained, count_in, recorded_in, released_in, purged_in}
use Rattle.lock_structure.proofs.Chains.{recorded_now, recorded_unique, released_now, released_unique, purged_now, purged_unique, retained_now, retained_unique}
use Rattle.lock_structure.proofs.Counts.{changed_count, put_count, without_count, absent_without, retained_count}

pub record_append : (xs ys : List Held) (k : ℕ) (p : Name) → record_in (xs ++ ys) k p ≡ (if is_some (record_in xs k p) then record_in xs k p else record_in ys k p)
record_append [] ys k p = refl
record_append (x ∷ xs) ys k p = let ih = record_append xs ys k p in grind (arith, ih)

pub all_none : (cs : List (List Held)) (k : ℕ) (p : Name) → ((b : ℕ) → b < length cs → record_in (get_or cs b []) k p ≡ None) → record_in (flat cs) k p ≡ None
all_none [] k p h = refl
all_none (c ∷ cs) k p h =
    let rest = all_none cs k p (λ b l. h (suc b) (omega (arith, l))) in
    let here : record_in c k p ≡ None = h zero (omega arith) in
    let a = record_append c (flat cs) k p in grind (arith, rest, here, a)

find_flat : (cs : List (List Held)) (e k : ℕ) (p : Name) → e < length cs → ((b : ℕ) → b < length cs → e ≢ b → record_in (get_or cs b []) k p ≡ None) → record_in (flat cs) k p ≡ record_in (get_or cs e []) k p
find_flat [] e k p l h = absurd (omega arith)
find_flat (c ∷ cs) zero k p l h =
    let rest = all_none cs k p (λ b s. h (suc b) (omega (arith, s)) (λ q. omega (arith, q))) in
    let a = record_append c (flat cs) k p in grind (arith, rest, a)
find_flat (c ∷ cs) (suc e) k p l h =
    let ih = find_flat cs e k p (omega (arith, l)) (λ b s ne. h (suc b) (omega (arith, s)) (λ q. ne (omega (arith, q)))) in
    let here : record_in c k p ≡ None = h zero (omega arith) (λ q. omega (arith, q)) in
    let a = record_append c (flat cs) k p in grind (arith, ih, here, a)

pub place_bound : (cs : List (List Held)) (p : Name) → 1 ≤ length cs → entry_number p (length cs) < length cs
place_bound cs p h = mod_below _ (length cs) h

-- a record is found in the chain on which its name falls
pub hashed_find : (cs : List (List Held)) (k : ℕ) (p : Name) → IsHashed cs → record_in (flat cs) k p ≡ record_in (get_or cs (entry_number p (length cs)) []) k p
hashed_find cs k p h = find_flat cs (entry_number p (length cs)) k p (place_bound cs p h.some) (λ b l ne. h.apart b k p l (ne_eqb (entry_number p (length cs)) b ne))

set_apart : (cs : List (List Held)) (at : ℕ) (ys : List Held) (b k : ℕ) (p : Name) → at < length cs → ((entry_number p (length cs) == at) ≡ false → record_in ys k p ≡ None) → IsHashed cs
    → b < length cs → (entry_number p (length cs) == b) ≡ false → record_in (get_or (set cs at ys) b []) k p ≡ None
set_apart cs at ys b k p l apart h s e = elim (cases_eq b at) [
  | inl q ↦ rw (q, get_or-set_same cs at ys [] l) (apart (rw (← q) e))
  | inr ne ↦ rw (get_or-set_other cs at b ys [] ne) (h.apart b k p s e)
]

set_unique : (cs : List (List Held)) (at : ℕ) (ys : List Held) (b : ℕ) → at < length cs → IsUnique ys → IsHashed cs → b < length cs → IsUnique (get_or (set cs at ys) b [])
set_unique cs at ys b l u h s = elim (cases_eq b at) [
  | inl q ↦ rw (q, get_or-set_same cs at ys [] l) u
  | inr ne ↦ rw (get_or-set_other cs at b ys [] ne) (h.unique b s)
]

set_hashed : (cs : List (List Held)) (at : ℕ) (ys : List Held) → at < length cs → IsUnique ys → ((k : ℕ) (p : Name) → (entry_number p (length cs) == at) ≡ false → record_in ys k p ≡ None) → IsHashed cs → IsHashed (set cs at ys)
set_hashed cs at ys l u apart h = record {
  some = rw (length-set cs at ys) h.some;
  bound = rw (length-set cs at ys) h.bound;
  apart = λ b k p s e. set_apart cs at ys b k p l (apart k p) h (subst (λ z. b < z) (length-set cs at ys) s) (subst (λ z. (entry_number p z == b) ≡ false) (length-set cs at ys) e);
  unique = λ b s. set_unique cs at ys b l u h (subst (λ z. b < z) (length-set cs at ys) s);
}

-- what a change of the member's record of the name makes of a chain
record Changes (m : ℕ) (n : Name) (f : Option Record → Option Record) (hs ys : List Held) : Type 0 where
  now : (k : ℕ) (p : Name) → record_in ys k p ≡ (if (k == m) && same_name n p then f (record_in hs k p) else record_in hs k p)
  count : (area : ℕ) → how_many area ys + one_if ((area == area_of m n) && is_some (record_in hs m n)) ≡ how_many area hs + one_if ((area == area_of m n) && is_some (f (record_in hs m n)))
  unique : IsUnique ys

other_name : (n p : Name) (e : ℕ) → (entry_number p e == entry_number n e) ≡ false → same_name n p ≡ false
other_name n p e ne = let s = same_entry n p e in grind (arith, s, ne)

changed_hashed : (cs : List (List Held)) (m : ℕ) (n : Name) (f : Option Record → Option Record) (ys : List Held) → Changes m n f (get_or cs (entry_number n (length cs)) []) ys → IsHashed cs → IsHashed (set cs (entry_number n (length cs)) ys)
changed_hashed cs m n f ys c h = set_hashed cs (entry_number n (length cs)) ys (place_bound cs n h.some) c.unique
    (λ k p e. let o = other_name n p (length cs) e in let now = c.now k p in let was = h.apart (entry_number n (length cs)) k p (place_bound cs n h.some) e in grind (arith, o, now, was)) h

changed_now : (cs : List (List Held)) (m : ℕ) (n : Name) (f : Option Record → Option Record) (ys : List Held) (k : ℕ) (p : Name) → Changes m n f (get_or cs (entry_number n (length cs)) []) ys → IsHashed cs
    → record_in (flat (set cs (entry_number n (length cs)) ys)) k p ≡ (if (k == m) && same_name n p then f (record_in (flat cs) k p) else record_in (flat cs) k p)
changed_now cs m n f ys k p c h =
    let b = entry_number n (length cs) in
    let e = entry_number p (length cs) in
    let old = hashed_find cs k p h in
    let new = hashed_find (set cs b ys) k p (changed_hashed cs m n f ys c h) in
    let long = length-set cs b ys in
    elim (cases_eq e b) [
      | inl q ↦ let same = get_or-set_same cs b ys [] (place_bound cs n h.some) in let now = c.now k p in grind (arith, old, new, long, q, same, now)
      | inr ne ↦ let other = get_or-set_other cs b e ys [] ne in let o = other_name n p (length cs) (ne_eqb e b ne) in grind (arith, old, new, long, other, o)
    ]

many_append : (xs ys : List Held) (area : ℕ) → how_many area (xs ++ ys) ≡ how_many area xs + how_many area ys
many_append [] ys area = omega arith
many_append (x ∷ xs) ys area = let ih = many_append xs ys area in grind (arith, ih)

pub flat_count : (cs : List (List Held)) (area : ℕ) → how_many area (flat cs) ≡ count_in area cs
flat_count [] area = refl
flat_count (c ∷ cs) area = let ih = flat_count cs area in let a = many_append c (flat cs) area in omega (arith, ih, a)

changed_all : (cs : List (List Held)) (m : ℕ) (n : Name) (f : Option Record → Option Record) (ys : List Held) (records pages : ℕ) → Changes m n f (get_or cs (entry_number n (length cs)) []) ys → IsHashed cs
    → Alters m n f (record { held = flat cs; records = records; pages = pages }) (record { held = flat (set cs (entry_number n (length cs)) ys); records = records; pages = pages })
changed_all cs m n f ys records pages c h = record {
  now = λ k p. changed_now cs m n f ys k p c h;
  count = λ area.
      let b = entry_number n (length cs) in
      let found = hashed_find cs m n h in
      let old = flat_count cs area in
      let new = flat_count (set cs b ys) area in
      let change = changed_count cs b area ys (place_bound cs n h.some) in
      let here = c.count area in rw (old, new, found) (omega (arith, change, here));
  records_limit = refl;
  pages_limit = refl;
}

-- ---- a grant, a release and a purge

recorded_changes : (hs : List Held) (m : ℕ) (n : Name) (mode : Mode) → IsUnique hs → Changes m n (after_grant mode) hs (recorded_in hs m n mode)
recorded_changes hs m n mode u = record {
  now = λ k p. recorded_now hs m n mode k p;
  count = λ area. let put = put_count hs m n (joined (record_in hs m n) mode) area in grind (arith, put);
  unique = recorded_unique hs m n mode u;
}

released_changes : (hs : List Held) (m : ℕ) (n : Name) → IsUnique hs → Changes m n after_release hs (released_in hs m n)
released_changes hs m n u = record {
  now = λ k p. released_now hs m n k p u;
  count = λ area. let out = without_count hs m n area in let same = absent_without hs m n in grind (arith, out, same);
  unique = released_unique hs m n u;
}

purged_changes : (hs : List Held) (m : ℕ) (n : Name) → IsUnique hs → Changes m n after_purge hs (purged_in hs m n)
purged_changes hs m n u = record {
  now = λ k p. purged_now hs m n k p u;
  count = λ area. let out = without_count hs m n area in let same = absent_without hs m n in grind (arith, out, same);
  unique = purged_unique hs m n u;
}

unique_at : (cs : List (List Held)) (n : Name) → IsHashed cs → IsUnique (get_or cs (entry_number n (length cs)) [])
unique_at cs n h = h.unique _ (place_bound cs n h.some)

pub recorded_hashed : (cs : List (List Held)) (at m : ℕ) (n : Name) (mode : Mode) → at ≡ entry_number n (length cs) → IsHashed cs → IsHashed (set cs at (recorded_in (get_or cs at []) m n mode))
recorded_hashed cs at m n mode e h = rw e (changed_hashed cs m n (after_grant mode) _ (recorded_changes _ m n mode (unique_at cs n h)) h)

pub recorded_all : (cs : List (List Held)) (at m : ℕ) (n : Name) (mode : Mode) (records pages : ℕ) → at ≡ entry_number n (length cs) → IsHashed cs
    → Alters m n (after_grant mode) (record { held = flat cs; records = records; pages = pages }) (record { held = flat (set cs at (recorded_in (get_or cs at []) m n mode)); records = records; pages = pages })
recorded_all cs at m n mode records pages e h = rw e (changed_all cs m n (after_grant mode) _ records pages (recorded_changes _ m n mode (unique_at cs n h)) h)

pub released_hashed : (cs : List (List Held)) (at m : ℕ) (n : Name) → at ≡ entry_number n (length cs) → IsHashed cs → IsHashed (set cs at (released_in (get_or cs at []) m n))
released_hashed cs at m n e h = rw e (changed_hashed cs m n after_release _ (released_changes _ m n (unique_at cs n h)) h)

pub released_all : (cs : List (List Held)) (at m : ℕ) (n : Name) (records pages : ℕ) → at ≡ entry_number n (length cs) → IsHashed cs
    → Alters m n after_release (record { held = flat cs; records = records; pages = pages }) (record { held = flat (set cs at (released_in (get_or cs at []) m n)); records = records; pages = pages })
released_all cs at m n records pages e h = rw e (changed_all cs m n after_release _ records pages (released_changes _ m n (unique_at cs n h)) h)

pub purged_hashed : (cs : List (List Held)) (at m : ℕ) (n : Name) → at ≡ entry_number n (length cs) → IsHashed cs → IsHashed (set cs at (purged_in (get_or cs at []) m n))
purged_hashed cs at m n e h = rw e (changed_hashed cs m n after_purge _ (purged_changes _ m n (unique_at cs n h)) h)

pub purged_all : (cs : List (List Held)) (at m : ℕ) (n : Name) (records pages : ℕ) → at ≡ entry_number n (length cs) → IsHashed cs
    → Alters m n after_purge (record { held = flat cs; records = records; pages = pages }) (record { held = flat (set cs at (purged_in (get_or cs at []) m n)); records = records; pages = pages })
purged_all cs at m n records pages e h = rw e (changed_all cs m n after_purge _ records pages (purged_changes _ m n (unique_at cs n h)) h)

-- ---- a failure

pub flat_retained : (cs : List (List Held)) (m : ℕ) → flat (map (map (retained_by m)) cs) ≡ map (retained_by m) (flat cs)
flat_retained [] m = refl
flat_retained (c ∷ cs) m = let ih = flat_retained cs m in rw (map-append (retained_by m) c (flat cs), ih) refl

chain_retained : (cs : List (List Held)) (m b : ℕ) → get_or (map (map (retained_by m)) cs) b [] ≡ map (retained_by m) (get_or cs b [])
chain_retained [] m b = refl
chain_retained (c ∷ cs) m zero = refl
chain_retained (c ∷ cs) m (suc b) = chain_retained cs m b

pub retained_hashed : (cs : List (List Held)) (m : ℕ) → IsHashed cs → IsHashed (map (map (retained_by m)) cs)
retained_hashed cs m h = record {
  some = rw (length-map cs (map (retained_by m))) h.some;
  bound = rw (length-map cs (map (retained_by m))) h.bound;
  apart = λ b k p s e.
      let none = h.apart b k p (subst (λ z. b < z) (length-map cs (map (retained_by m))) s) (subst (λ z. (entry_number p z == b) ≡ false) (length-map cs (map (retained_by m))) e) in
      let now = retained_now (get_or cs b []) m k p in rw (chain_retained cs m b) (grind (arith, none, now));
  unique = λ b s. rw (chain_retained cs m b) (retained_unique (get_or cs b []) m (h.unique b (subst (λ z. b < z) (length-map cs (map (retained_by m))) s)));
}

pub retained_all : (cs : List (List Held)) (m : ℕ) (records pages : ℕ) → Retains m (record { held = flat cs; records = records; pages = pages }) (record { held = flat (map (map (retained_by m)) cs); records = records; pages = pages })
retained_all cs m records pages = record {
  now = λ k p. rw (flat_retained cs m) (retained_now (flat cs) m k p);
  count = λ area. rw (flat_retained cs m) (retained_count (flat cs) m area);
  records_limit = refl;
  pages_limit = refl;
}

-- ---- the retained records of one chain after the other

pub retained_append : (m : ℕ) (xs ys : List Held) → retained_of m (xs ++ ys) ≡ retained_of m xs ++ retained_of m ys
retained_append m [] ys = refl
retained_append m (x ∷ xs) ys = let ih = retained_append m xs ys in grind (arith, ih, common_steps)

pub flat_all_retained : (m : ℕ) (cs : List (List Held)) → all_retained m cs ≡ retained_of m (flat cs)
flat_all_retained m [] = refl
flat_all_retained m (c ∷ cs) = let ih = flat_all_retained m cs in let a = retained_append m c (flat cs) in rw (a, ih) refl

-- ---- nothing

pub empty_hashed : (n : ℕ) → 1 ≤ n → n < 2 ^ 32 → IsHashed (replicate n [])
empty_hashed n some bound = record {
  some = rw (length-replicate {A = List Held} n []) some;
  bound = rw (length-replicate {A = List Held} n []) bound;
  apart = λ b k p s e. grind (arith, common_steps);
  unique = λ b s. grind (arith, common_steps);
}

pub flat_empty : (n : ℕ) → flat (replicate n []) ≡ []
flat_empty zero = refl
flat_empty (suc n) = flat_empty n

-- room for a record, as the chains have it
pub room_all : (cs : List (List Held)) (at m area size : ℕ) (n : Name) (free : Bool) → at ≡ entry_number n (length cs) → IsHashed cs → IsTrue (free || (is_some (record_in (flat cs) m n) || nat_lt (how_many area (flat cs)) size))
    → IsTrue ((free || is_some (record_in (get_or cs at []) m n)) || nat_lt (count_in area cs) size)
room_all cs at m area size n free e h room =
    let found = hashed_find cs m n h in
    let count = flat_count cs area in
    let was : IsTrue (free || (is_some (record_in (get_or cs (entry_number n (length cs)) []) m n) || nat_lt (count_in area cs) size)) = rw (← found, ← count) room in
    rw e (grind (arith, was))
