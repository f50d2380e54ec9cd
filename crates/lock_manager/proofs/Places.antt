-- Each name is claimed in the chain on which it falls, and nowhere else.
use Rattle.std.proofs.Common.{◌≡◌, ℕ, zero, suc, ◌+◌, ◌^◌, ◌<◌, ◌≤◌, Bool, true, false, List, [], ◌∷◌, ◌++◌, length, take, drop, set, get_or, refl, sym, ◌∙◌, ap, subst, arith, if◌then◌else◌}
use Rattle.std.specs.Prelude.{Some, None, is_some, replicate}
use Rattle.std.proofs.lemmas.List.{get_or_default, at_drop_more, append_assoc, take_more, length-set, length-append}
use Rattle.ds_model.specs.declared.lock.Name.{Name}
use Rattle.lock_names.specs.declared.mode.Mode.{Mode}
use Rattle.lock_names.specs.Entries.{entry_number}
use Rattle.lock_names.specs.Names.{same_name}
use Rattle.lock_names.proofs.Names.{same_itself, same_entry}
use Rattle.lock_manager.specs.declared.claim.Claim.{Claim}
use Rattle.lock_manager.specs.Claims.{mode_in, without, with_mode}
use Rattle.lock_manager.specs.Buckets.{all_in, FallOn, IsInPlace, HasBuckets}
use Rattle.lock_manager.proofs.Rooms.{absent_without, drop_next}

absent : (count k : ℕ) (cs : List Claim) (n : Name) → FallOn count k cs → (entry_number n count ≡ k → ⊥) → mode_in cs n ≡ None
absent count k [] n f ne = refl
absent count k (c ∷ cs) n f ne = let ih = absent count k cs n f.1 ne in let same = same_entry c.name n count in let here = f.0 in grind (arith, ih, same, here, ne)

mode_append : (xs ys : List Claim) (n : Name) → mode_in (xs ++ ys) n ≡ (if is_some (mode_in xs n) then mode_in xs n else mode_in ys n)
mode_append [] ys n = refl
mode_append (x ∷ xs) ys n = let ih = mode_append xs ys n in grind (arith, ih)

without_append : (xs ys : List Claim) (n : Name) → without (xs ++ ys) n ≡ (if is_some (mode_in xs n) then without xs n ++ ys else xs ++ without ys n)
without_append [] ys n = refl
without_append (x ∷ xs) ys n = let ih = without_append xs ys n in grind (arith, ih)

absent_later : (count k : ℕ) (cs : List (List Claim)) (n : Name) → IsInPlace count k cs → entry_number n count < k → mode_in (all_in cs) n ≡ None
absent_later count k [] n p l = refl
absent_later count k (c ∷ cs) n p l =
    let here = absent count k c n p.0 (λ e. omega (arith, e, l)) in
    let ih = absent_later count (k + 1) cs n p.1 (omega (arith, l)) in
    let split = mode_append c (all_in cs) n in grind (arith, here, ih, split)

-- one chain is another, and the name falls on it
pub mode_set : (count k : ℕ) (cs : List (List Claim)) (at : ℕ) (new : List Claim) (n : Name) → IsInPlace count k cs → entry_number n count ≡ k + at → at < length cs → mode_in (all_in (set cs at new)) n ≡ mode_in new n
mode_set count k [] at new n p e h = absurd (omega arith)
mode_set count k (c ∷ cs) zero new n p e h =
    let later = absent_later count (k + 1) cs n p.1 (omega (arith, e)) in
    let split = mode_append new (all_in cs) n in grind (arith, later, split)
mode_set count k (c ∷ cs) (suc at) new n p e h =
    let here = absent count k c n p.0 (λ z. omega (arith, z, e)) in
    let ih = mode_set count (k + 1) cs at new n p.1 (omega (arith, e)) (omega (arith, h)) in
    let split = mode_append c (all_in (set cs at new)) n in grind (arith, here, ih, split)

pub without_set : (count k : ℕ) (cs : List (List Claim)) (at : ℕ) (new : List Claim) (n : Name) → IsInPlace count k cs → entry_number n count ≡ k + at → at < length cs → without (all_in (set cs at new)) n ≡ all_in (set cs at (without new n))
without_set count k [] at new n p e h = absurd (omega arith)
without_set count k (c ∷ cs) zero new n p e h =
    let later = absent_later count (k + 1) cs n p.1 (omega (arith, e)) in
    let same = absent_without (all_in cs) n (ap (λ z. is_some z) later) in
    let gone = absent_without new n in
    let split = without_append new (all_in cs) n in grind (arith, same, gone, split)
without_set count k (c ∷ cs) (suc at) new n p e h =
    let here = absent count k c n p.0 (λ z. omega (arith, z, e)) in
    let ih = without_set count (k + 1) cs at new n p.1 (omega (arith, e)) (omega (arith, h)) in
    let split = without_append c (all_in (set cs at new)) n in grind (arith, here, ih, split)

pub place_set : (count k : ℕ) (cs : List (List Claim)) (at : ℕ) (new : List Claim) → IsInPlace count k cs → FallOn count (k + at) new → IsInPlace count k (set cs at new)
place_set count k [] at new p f = tt
place_set count k (c ∷ cs) zero new p f = let e : k + 0 ≡ k = omega arith in let P : ℕ → Type 0 = λ z. FallOn count z new in (subst P e f, p.1)
place_set count k (c ∷ cs) (suc at) new p f =
    let e : k + suc at ≡ k + 1 + at = omega arith in
    let P : ℕ → Type 0 = λ z. FallOn count z new in
    (p.0, place_set count (k + 1) cs at new p.1 (subst P e f))

pub fall_at : (count k : ℕ) (cs : List (List Claim)) (at : ℕ) → IsInPlace count k cs → FallOn count (k + at) (get_or cs at [])
fall_at count k [] at p = tt
fall_at count k (c ∷ cs) zero p = let e : k ≡ k + 0 = omega arith in let P : ℕ → Type 0 = λ z. FallOn count z c in subst P e p.0
fall_at count k (c ∷ cs) (suc at) p =
    let e : k + 1 + at ≡ k + suc at = omega arith in
    let P : ℕ → Type 0 = λ z. FallOn count z (get_or cs at []) in
    subst P e (fall_at count (k + 1) cs at p.1)

fall_more : (count k : ℕ) (c : Claim) (cs : List Claim) (b : Bool) (xs ys : List Claim) → FallOn count k xs → FallOn count k ys → FallOn count k (if b then xs else ys)
fall_more count k c cs true xs ys f g = f
fall_more count k c cs false xs ys f g = g

pub fall_without : (count k : ℕ) (cs : List Claim) (n : Name) → FallOn count k cs → FallOn count k (without cs n)
fall_without count k [] n f = tt
fall_without count k (c ∷ cs) n f = fall_more count k c cs (same_name c.name n) cs (c ∷ without cs n) f.1 (f.0, fall_without count k cs n f.1)

-- with a claim on a name that falls there
fall_case : (count k : ℕ) (c : Claim) (cs : List Claim) (n : Name) (b : Bool) → same_name c.name n ≡ b → entry_number n count ≡ k → FallOn count k (if b then cs else c ∷ without cs n) → (FallOn count k (without cs n) → FallOn count k cs) → FallOn count k (c ∷ cs)
fall_case count k c cs n true e at f ih = (same_entry c.name n count e ∙ at, f)
fall_case count k c cs n false e at f ih = (f.0, ih f.1)

pub fall_with : (count k : ℕ) (cs : List Claim) (n : Name) → entry_number n count ≡ k → FallOn count k (without cs n) → FallOn count k cs
fall_with count k [] n at f = tt
fall_with count k (c ∷ cs) n at f = fall_case count k c cs n (same_name c.name n) refl at f (fall_with count k cs n at)

length_all : (cs : List (List Claim)) (at : ℕ) (new : List Claim) → at < length cs → length (all_in (set cs at new)) + length (get_or cs at []) ≡ length (all_in cs) + length new
length_all [] at new h = absurd (omega arith)
length_all (c ∷ cs) zero new h = let a = length-append new (all_in cs) in let b = length-append c (all_in cs) in omega (arith, a, b)
length_all (c ∷ cs) (suc at) new h = let ih = length_all cs at new (omega (arith, h)) in let a = length-append c (all_in (set cs at new)) in let b = length-append c (all_in cs) in omega (arith, ih, a, b)

-- ---- as the code meets them

read_chain : (cs : List (List Claim)) (at : ℕ) (old : List Claim) → at < length cs → old ≡ get_or cs at old → old ≡ get_or cs at []
read_chain cs at old h e = e ∙ get_or_default cs at old [] h

same_chain : (cs : List (List Claim)) (at : ℕ) (old : List Claim) → old ≡ get_or cs at old → set cs at old ≡ cs
same_chain [] at old e = refl
same_chain (c ∷ cs) zero old e = ap (λ z. z ∷ cs) e
same_chain (c ∷ cs) (suc at) old e = ap (λ z. c ∷ z) (same_chain cs at old e)

pub found_in : (cs : List (List Claim)) (at : ℕ) (old : List Claim) (n : Name) → HasBuckets cs → at ≡ entry_number n (length cs) → at < length cs → old ≡ get_or cs at old → mode_in old n ≡ mode_in (all_in cs) n
found_in cs at old n has e h o = sym (mode_set (length cs) 0 cs at old n has.1.1 (omega (arith, e)) h) ∙ ap (λ z. mode_in (all_in z) n) (same_chain cs at old o)

-- a chain whose claims but the one on the name are as before
pub changed_mode : (cs : List (List Claim)) (at : ℕ) (new : List Claim) (n : Name) → HasBuckets cs → at ≡ entry_number n (length cs) → at < length cs → mode_in (all_in (set cs at new)) n ≡ mode_in new n
changed_mode cs at new n has e h = mode_set (length cs) 0 cs at new n has.1.1 (omega (arith, e)) h

pub changed_rest : (cs : List (List Claim)) (at : ℕ) (old new : List Claim) (n : Name) → HasBuckets cs → at ≡ entry_number n (length cs) → at < length cs → old ≡ get_or cs at old → without new n ≡ without old n → without (all_in (set cs at new)) n ≡ without (all_in cs) n
changed_rest cs at old new n has e h o w =
    without_set (length cs) 0 cs at new n has.1.1 (omega (arith, e)) h ∙ ap (λ z. all_in (set cs at z)) w ∙ sym (without_set (length cs) 0 cs at old n has.1.1 (omega (arith, e)) h) ∙ ap (λ z. without (all_in z) n) (same_chain cs at old o)

pub changed_length : (cs : List (List Claim)) (at : ℕ) (old new : List Claim) → at < length cs → old ≡ get_or cs at old → length (all_in (set cs at new)) + length old ≡ length (all_in cs) + length new
changed_length cs at old new h o = let it = length_all cs at new h in let r = ap (λ z. length z) (read_chain cs at old h o) in omega (arith, it, r)

fall_old : (cs : List (List Claim)) (at : ℕ) (old : List Claim) → HasBuckets cs → at < length cs → old ≡ get_or cs at old → FallOn (length cs) at old
fall_old cs at old has h o = let P : List Claim → Type 0 = λ z. FallOn (length cs) at z in let e : 0 + at ≡ at = omega arith in let Q : ℕ → Type 0 = λ z. FallOn (length cs) z (get_or cs at []) in subst P (sym (read_chain cs at old h o)) (subst Q e (fall_at (length cs) 0 cs at has.1.1))

kept_buckets : (cs : List (List Claim)) (at : ℕ) (new : List Claim) → HasBuckets cs → FallOn (length cs) at new → HasBuckets (set cs at new)
kept_buckets cs at new has f = let e : at ≡ 0 + at = omega arith in let P : ℕ → Type 0 = λ z. FallOn (length cs) z new in rw (length-set cs at new) (has.0, (has.1.0, place_set (length cs) 0 cs at new has.1.1 (subst P e f)))

pub changed_buckets : (cs : List (List Claim)) (at : ℕ) (old new : List Claim) (n : Name) → HasBuckets cs → at ≡ entry_number n (length cs) → at < length cs → old ≡ get_or cs at old → without new n ≡ without old n → HasBuckets (set cs at new)
changed_buckets cs at old new n has e h o w =
    let P : List Claim → Type 0 = λ z. FallOn (length cs) at z in
    kept_buckets cs at new has (fall_with (length cs) at new n (sym e) (subst P (sym w) (fall_without (length cs) at old n (fall_old cs at old has h o))))

pub removed_rest : (cs : List (List Claim)) (at : ℕ) (old new : List Claim) (n : Name) → HasBuckets cs → at ≡ entry_number n (length cs) → at < length cs → old ≡ get_or cs at old → new ≡ without old n → all_in (set cs at new) ≡ without (all_in cs) n
removed_rest cs at old new n has e h o w =
    ap (λ z. all_in (set cs at z)) w ∙ sym (without_set (length cs) 0 cs at old n has.1.1 (omega (arith, e)) h) ∙ ap (λ z. without (all_in z) n) (same_chain cs at old o)

pub removed_buckets : (cs : List (List Claim)) (at : ℕ) (old new : List Claim) (n : Name) → HasBuckets cs → at < length cs → old ≡ get_or cs at old → new ≡ without old n → HasBuckets (set cs at new)
removed_buckets cs at old new n has h o w =
    let P : List Claim → Type 0 = λ z. FallOn (length cs) at z in
    kept_buckets cs at new has (subst P (sym w) (fall_without (length cs) at old n (fall_old cs at old has h o)))

pub popped_buckets : (cs : List (List Claim)) (at : ℕ) (old new : List Claim) (c : Claim) → HasBuckets cs → at < length cs → old ≡ get_or cs at old → old ≡ c ∷ new → HasBuckets (set cs at new)
popped_buckets cs at old new c has h o w =
    let P : List Claim → Type 0 = λ z. FallOn (length cs) at z in
    kept_buckets cs at new has (subst P w (fall_old cs at old has h o)).1

-- ---- another mode in a claim

absent_with : (cs : List Claim) (n : Name) (m : Mode) → is_some (mode_in cs n) ≡ false → with_mode cs n m ≡ cs
absent_with [] n m e = refl
absent_with (c ∷ cs) n m e = let ih = absent_with cs n m in grind (arith, ih)

with_append : (xs ys : List Claim) (n : Name) (m : Mode) → with_mode (xs ++ ys) n m ≡ (if is_some (mode_in xs n) then with_mode xs n m ++ ys else xs ++ with_mode ys n m)
with_append [] ys n m = refl
with_append (x ∷ xs) ys n m = let ih = with_append xs ys n m in grind (arith, ih)

with_set : (count k : ℕ) (cs : List (List Claim)) (at : ℕ) (n : Name) (m : Mode) → IsInPlace count k cs → entry_number n count ≡ k + at → at < length cs → with_mode (all_in cs) n m ≡ all_in (set cs at (with_mode (get_or cs at []) n m))
with_set count k [] at n m p e h = absurd (omega arith)
with_set count k (c ∷ cs) zero n m p e h =
    let later = absent_later count (k + 1) cs n p.1 (omega (arith, e)) in
    let same = absent_with (all_in cs) n m (ap (λ z. is_some z) later) in
    let gone = absent_with c n m in
    let split = with_append c (all_in cs) n m in grind (arith, same, gone, split)
with_set count k (c ∷ cs) (suc at) n m p e h =
    let here = absent count k c n p.0 (λ z. omega (arith, z, e)) in
    let ih = with_set count (k + 1) cs at n m p.1 (omega (arith, e)) (omega (arith, h)) in
    let split = with_append c (all_in cs) n m in grind (arith, here, ih, split)

pub changed_place : (cs : List (List Claim)) (at : ℕ) (old new : List Claim) (n : Name) (m : Mode) → HasBuckets cs → at ≡ entry_number n (length cs) → at < length cs → old ≡ get_or cs at old → new ≡ with_mode old n m → all_in (set cs at new) ≡ with_mode (all_in cs) n m
changed_place cs at old new n m has e h o w =
    let here = w ∙ ap (λ z. with_mode z n m) (read_chain cs at old h o) in
    ap (λ z. all_in (set cs at z)) here ∙ sym (with_set (length cs) 0 cs at n m has.1.1 (omega (arith, e)) h)

-- ---- the first chain that isn't empty

front_empty : (xs ys : List Claim) → xs ++ ys ≡ [] → xs ≡ []
front_empty [] ys e = refl
front_empty (x ∷ xs) ys e = cc

rest_empty : (xs ys : List Claim) → xs ++ ys ≡ [] → ys ≡ []
rest_empty [] ys e = e
rest_empty (x ∷ xs) ys e = cc

all_append : (xs ys : List (List Claim)) → all_in (xs ++ ys) ≡ all_in xs ++ all_in ys
all_append [] ys = refl
all_append (x ∷ xs) ys = ap (λ z. x ++ z) (all_append xs ys) ∙ sym (append_assoc x (all_in xs) (all_in ys))

-- the chains before the next one are empty too
pub empty_more : (cs : List (List Claim)) (i : ℕ) (d : List Claim) → i < length cs → all_in (take i cs) ≡ [] → get_or cs i d ≡ [] → all_in (take (i + 1) cs) ≡ []
empty_more cs i d h e g = ap all_in (take_more cs i d h) ∙ all_append (take i cs) (get_or cs i d ∷ []) ∙ ap (λ z. z ++ (get_or cs i d ++ [])) e ∙ ap (λ z. z ++ []) g

popped_from : (cs : List (List Claim)) (at : ℕ) (c : Claim) (new : List Claim) → at < length cs → all_in (take at cs) ≡ [] → get_or cs at [] ≡ c ∷ new → all_in cs ≡ c ∷ all_in (set cs at new)
popped_from [] at c new h e g = absurd (omega arith)
popped_from (x ∷ xs) zero c new h e g = ap (λ z. z ++ all_in xs) g
popped_from (x ∷ xs) (suc at) c new h e g =
    let none = front_empty x (all_in (take at xs)) e in
    let ih = popped_from xs at c new (omega (arith, h)) (rest_empty x (all_in (take at xs)) e) g in
    ap (λ z. z ++ all_in xs) none ∙ ih ∙ ap (λ z. c ∷ z ++ all_in (set xs at new)) (sym none)

pub popped_first : (cs : List (List Claim)) (at : ℕ) (old new : List Claim) (c : Claim) → at < length cs → all_in (take at cs) ≡ [] → old ≡ get_or cs at old → old ≡ c ∷ new → all_in cs ≡ c ∷ all_in (set cs at new)
popped_first cs at old new c h e o w = popped_from cs at c new h e (sym (read_chain cs at old h o) ∙ w)

start_place : (count k n : ℕ) → IsInPlace count k (replicate n [])
start_place count k zero = tt
start_place count k (suc n) = (tt, start_place count (k + 1) n)

all_empty : (n : ℕ) → all_in (replicate n []) ≡ []
all_empty zero = refl
all_empty (suc n) = all_empty n

pub start_all : (cs : List (List Claim)) (n : ℕ) → cs ≡ replicate n [] → all_in cs ≡ []
start_all cs n e = ap all_in e ∙ all_empty n

pub start_buckets : (cs : List (List Claim)) (n : ℕ) → cs ≡ replicate n [] → 1 ≤ n → n < 2 ^ 32 → length cs ≡ n → HasBuckets cs
start_buckets cs n e a b l = let P : List (List Claim) → Type 0 = λ z. IsInPlace (length cs) 0 z in (omega (arith, a, l), (omega (arith, b, l), subst P (sym e) (start_place (length cs) 0 n)))

pub inserted_mode : (c : Claim) (old new : List Claim) → new ≡ c ∷ old → mode_in new c.name ≡ Some c.mode
inserted_mode c old new e = let same = same_itself c.name in rw e (grind (arith, same))

pub inserted_rest : (c : Claim) (old new : List Claim) → new ≡ c ∷ old → is_some (mode_in old c.name) ≡ false → without new c.name ≡ without old c.name
inserted_rest c old new e a = let same = same_itself c.name in let gone = absent_without old c.name a in rw e (grind (arith, same, gone))

-- ---- the claim at a place

drop_within : (xs ys : List Claim) (k : ℕ) (c : Claim) (rest : List Claim) → drop k xs ≡ c ∷ rest → drop k (xs ++ ys) ≡ c ∷ rest ++ ys
drop_within [] ys zero c rest e = cc
drop_within [] ys (suc k) c rest e = cc
drop_within (x ∷ xs) ys zero c rest e = ap (λ z. z ++ ys) e
drop_within (x ∷ xs) ys (suc k) c rest e = drop_within xs ys k c rest e

drop_beyond : (xs ys : List Claim) (k : ℕ) → drop (length xs + k) (xs ++ ys) ≡ drop k ys
drop_beyond [] ys k = let e : 0 + k ≡ k = omega arith in ap (λ z. drop z ys) e
drop_beyond (x ∷ xs) ys k = let e : suc (length xs + k) ≡ length (x ∷ xs) + k = omega arith in subst (λ z. drop z (x ∷ xs ++ ys) ≡ drop k ys) e (drop_beyond xs ys k)

pub nth_here : (cs : List (List Claim)) (i : ℕ) (d all : List Claim) (k left : ℕ) (c : Claim) → i < length cs → drop k all ≡ drop left (all_in (drop i cs)) → drop left (get_or cs i d) ≡ c ∷ drop (left + 1) (get_or cs i d) → drop k all ≡ c ∷ drop (k + 1) all
nth_here cs i d all k left c h e s =
    let split = at_drop_more (λ z. drop left (all_in z)) cs i d h in
    let here = e ∙ split ∙ drop_within (get_or cs i d) (all_in (drop (i + 1) cs)) left c (drop (left + 1) (get_or cs i d)) s in
    here ∙ ap (λ z. c ∷ z) (sym (drop_next all k c (drop (left + 1) (get_or cs i d) ++ all_in (drop (i + 1) cs)) here))

pub nth_beyond : (cs : List (List Claim)) (i : ℕ) (d : List Claim) (left beyond : ℕ) → i < length cs → left ≡ length (get_or cs i d) + beyond → drop left (all_in (drop i cs)) ≡ drop beyond (all_in (drop (i + 1) cs))
nth_beyond cs i d left beyond h e = at_drop_more (λ z. drop left (all_in z)) cs i d h ∙ ap (λ z. drop z (get_or cs i d ++ all_in (drop (i + 1) cs))) e ∙ drop_beyond (get_or cs i d) (all_in (drop (i + 1) cs)) beyond
