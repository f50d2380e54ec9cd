-- The tally of claims that come and go.
use Rattle.std.proofs.Common.{◌≡◌, ℕ, zero, suc, subst, ◌+◌, ◌-◌, ◌<◌, ◌≤◌, Bool, true, false, List, [], ◌∷◌, ◌++◌, length, take, drop, set, get_or, replicate, refl, sym, ◌∙◌, ap, ◌^◌, arith, if◌then◌else◌, ◌==◌}
use Rattle.std.specs.Prelude.{Option, Some, None, nat_lt, ◌&&◌}
use Rattle.std.specs.List.{remove}
use Rattle.std.proofs.lemmas.List.{get_or_default}
use Rattle.std.proofs.lemmas.Grind.{common_steps}
use Rattle.ds_model.specs.declared.lock.Name.{Name}
use Rattle.lock_names.specs.declared.mode.Mode.{Mode}
use Rattle.lock_names.specs.declared.mode.Class.{Class}
use Rattle.lock_names.specs.declared.mode.Class.TheVariants.{Share, Exclusive}
use Rattle.lock_names.specs.declared.mode.Interest.{Interest}
use Rattle.lock_names.specs.Entries.{entry_number}
use Rattle.lock_names.specs.Modes.{class_of}
use Rattle.lock_manager.specs.declared.claim.Claim.{Claim}
use Rattle.lock_manager.specs.Claims.{same_class, mode_in, without, needs, one_needs}
use Rattle.lock_manager.specs.declared.claim.Rollback.{Rollback}
use Rattle.record_area.specs.Areas.{Room}
use Rattle.lock_manager.specs.Holders.{any_needs, total, kept}
use Rattle.lock_manager.specs.Managers.{HasRoom}
use Rattle.lock_names.proofs.Names.{same_itself, same_entry}
use Rattle.lock_manager.proofs.Rooms.{some_total}
use Rattle.lock_manager.specs.Tallies.{Tallied, tallied, counted, counted_mode, count_in, count_of_all, IsTally, IsCounted}

-- a count at one place becomes another
other_count : (xs : List ℕ) (at x e : ℕ) → at < length xs → get_or (set xs at x) e 0 ≡ (if e == at then x else get_or xs e 0)
other_count xs at x e h = grind (arith, common_steps)

class_itself : (c : Class) → same_class c c ≡ true
unfolding same_class
class_itself Share = refl
class_itself Exclusive = refl

here_or : (e at : ℕ) (k d : Class) (x y : ℕ) → same_class k d ≡ true → x + 1 ≡ y → (if e == at then y else x) ≡ x + (if (at == e) && same_class k d then 1 else 0)
here_or e at k d x y s h = grind (arith, s, h)

own_count : (xs : List ℕ) (at x : ℕ) → at < length xs → x ≡ get_or xs at x → x ≡ get_or xs at 0
own_count xs at x h e = e ∙ get_or_default xs at x 0 h

raised : (xs : List ℕ) (at x e : ℕ) (k : Class) → at < length xs → x ≡ get_or xs at x → get_or (set xs at (x + 1)) e 0 ≡ get_or xs e 0 + (if (at == e) && same_class k k then 1 else 0)
raised xs at x e k h o = let it = other_count xs at (x + 1) e h in let s = class_itself k in let same = own_count xs at x h o in grind (arith, it, s, same)

lowered : (xs : List ℕ) (at x e : ℕ) (k : Class) → at < length xs → x ≡ get_or xs at x → 0 < x → get_or (set xs at (x - 1)) e 0 + (if (at == e) && same_class k k then 1 else 0) ≡ get_or xs e 0
lowered xs at x e k h o l = let it = other_count xs at (x - 1) e h in let s = class_itself k in let same = own_count xs at x h o in grind (arith, it, s, same, l)

no_other : (b : Bool) (x : ℕ) → x ≡ x + (if b && false then 1 else 0)
no_other true x = omega arith
no_other false x = omega arith

no_fewer : (b : Bool) (x : ℕ) → x + (if b && false then 1 else 0) ≡ x
no_fewer true x = omega arith
no_fewer false x = omega arith

-- ---- one claim more, and one less

pub raised_share : (t : Tallied) (c : Claim) (at x : ℕ) → Share ≡ class_of c.mode → at ≡ entry_number c.name t.entries → at < length t.share → x ≡ get_or t.share at x
    → (class : Class) (entry : ℕ) → tallied (record t { share = set t.share at (x + 1) }) class entry ≡ tallied t class entry + counted t.entries entry class c
unfolding same_class
raised_share t c at x k a h o Share entry = rw (← k, ← a) (raised t.share at x entry Share h o)
raised_share t c at x k a h o Exclusive entry = rw (← k) (no_other (entry_number c.name t.entries == entry) (tallied t Exclusive entry))

pub raised_exclusive : (t : Tallied) (c : Claim) (at x : ℕ) → Exclusive ≡ class_of c.mode → at ≡ entry_number c.name t.entries → at < length t.exclusive → x ≡ get_or t.exclusive at x
    → (class : Class) (entry : ℕ) → tallied (record t { exclusive = set t.exclusive at (x + 1) }) class entry ≡ tallied t class entry + counted t.entries entry class c
unfolding same_class
raised_exclusive t c at x k a h o Share entry = rw (← k) (no_other (entry_number c.name t.entries == entry) (tallied t Share entry))
raised_exclusive t c at x k a h o Exclusive entry = rw (← k, ← a) (raised t.exclusive at x entry Exclusive h o)

pub lowered_share : (t : Tallied) (c : Claim) (at x : ℕ) → Share ≡ class_of c.mode → at ≡ entry_number c.name t.entries → at < length t.share → x ≡ get_or t.share at x → 0 < x
    → (class : Class) (entry : ℕ) → tallied (record t { share = set t.share at (x - 1) }) class entry + counted t.entries entry class c ≡ tallied t class entry
unfolding same_class
lowered_share t c at x k a h o l Share entry = rw (← k, ← a) (lowered t.share at x entry Share h o l)
lowered_share t c at x k a h o l Exclusive entry = rw (← k) (no_fewer (entry_number c.name t.entries == entry) (tallied t Exclusive entry))

pub lowered_exclusive : (t : Tallied) (c : Claim) (at x : ℕ) → Exclusive ≡ class_of c.mode → at ≡ entry_number c.name t.entries → at < length t.exclusive → x ≡ get_or t.exclusive at x → 0 < x
    → (class : Class) (entry : ℕ) → tallied (record t { exclusive = set t.exclusive at (x - 1) }) class entry + counted t.entries entry class c ≡ tallied t class entry
unfolding same_class
lowered_exclusive t c at x k a h o l Share entry = rw (← k) (no_fewer (entry_number c.name t.entries == entry) (tallied t Share entry))
lowered_exclusive t c at x k a h o l Exclusive entry = rw (← k, ← a) (lowered t.exclusive at x entry Exclusive h o l)

pub share_counted : (t old : Tallied) (c : Claim) (at x : ℕ) → t ≡ old → Share ≡ class_of c.mode → at ≡ entry_number c.name t.entries → at < length t.share → x ≡ get_or t.share at x → 0 < tallied old (class_of c.mode) (entry_number c.name old.entries) → 0 < x
share_counted t old c at x v k a h o l =
    let P : Tallied → Type 0 = λ z. 0 < tallied z (class_of c.mode) (entry_number c.name z.entries) in
    let Q : Class → Type 0 = λ z. 0 < tallied t z (entry_number c.name t.entries) in
    let R : ℕ → Type 0 = λ z. 0 < tallied t Share z in
    let S : ℕ → Type 0 = λ z. 0 < z in
    subst S (sym (own_count t.share at x h o)) (subst R (sym a) (subst Q (sym k) (subst P (sym v) l)))

pub exclusive_counted : (t old : Tallied) (c : Claim) (at x : ℕ) → t ≡ old → Exclusive ≡ class_of c.mode → at ≡ entry_number c.name t.entries → at < length t.exclusive → x ≡ get_or t.exclusive at x → 0 < tallied old (class_of c.mode) (entry_number c.name old.entries) → 0 < x
exclusive_counted t old c at x v k a h o l =
    let P : Tallied → Type 0 = λ z. 0 < tallied z (class_of c.mode) (entry_number c.name z.entries) in
    let Q : Class → Type 0 = λ z. 0 < tallied t z (entry_number c.name t.entries) in
    let R : ℕ → Type 0 = λ z. 0 < tallied t Exclusive z in
    let S : ℕ → Type 0 = λ z. 0 < z in
    subst S (sym (own_count t.exclusive at x h o)) (subst R (sym a) (subst Q (sym k) (subst P (sym v) l)))

-- ---- all claims

count_set : (entries e : ℕ) (k : Class) (hs : List (List Claim)) (at : ℕ) (ys : List Claim) → at < length hs → count_of_all entries e k (set hs at ys) + count_in entries e k (get_or hs at []) ≡ count_of_all entries e k hs + count_in entries e k ys
count_set entries e k [] at ys h = absurd (omega arith)
count_set entries e k (c ∷ cs) zero ys h = omega arith
count_set entries e k (c ∷ cs) (suc at) ys h = let ih = count_set entries e k cs at ys (omega (arith, h)) in omega (arith, ih)

-- an owner's claims become others, and the counts change by as much
pub moved_tally : (entries : ℕ) (hs : List (List Claim)) (at : ℕ) (old new : List Claim) (t after : Tallied) → at < length hs → old ≡ get_or hs at old → after.entries ≡ t.entries
    → ((class : Class) (entry : ℕ) → tallied after class entry + count_in entries entry class old ≡ tallied t class entry + count_in entries entry class new)
    → IsTally entries hs t → IsTally entries (set hs at new) after
moved_tally entries hs at old new t after h o s moved is = (
  s ∙ is.0,
  λ class entry.
      let there = ap (λ z. count_in entries entry class z) (o ∙ get_or_default hs at old [] h) in
      let sum = count_set entries entry class hs at new h in
      let step = moved class entry in
      let was = is.1 class entry in
      omega (arith, there, sum, step, was),
)

one_counted : (entries e : ℕ) (k : Class) (cs : List Claim) → one_needs entries e k cs ≡ nat_lt 0 (count_in entries e k cs)
one_counted entries e k [] = refl
one_counted entries e k (c ∷ cs) = let ih = one_counted entries e k cs in grind (arith, ih)

any_counted : (entries e : ℕ) (k : Class) (hs : List (List Claim)) → any_needs entries e k hs ≡ nat_lt 0 (count_of_all entries e k hs)
any_counted entries e k [] = refl
any_counted entries e k (c ∷ cs) = let ih = any_counted entries e k cs in let one = one_counted entries e k c in grind (arith, ih, one)

-- a claim of the class in the entry is needed exactly where the tally has one
pub needed : (entries : ℕ) (hs : List (List Claim)) (t : Tallied) (k : Class) (e : ℕ) (answer : Bool) → IsTally entries hs t → answer ≡ nat_lt 0 (tallied t k e) → answer ≡ any_needs entries e k hs
needed entries hs t k e answer is a = a ∙ ap (λ z. nat_lt 0 z) (is.1 k e) ∙ sym (any_counted entries e k hs)

-- the same where an owner gives up claims, of which so many are counted there
pub needed_without : (entries : ℕ) (hs : List (List Claim)) (t : Tallied) (k : Class) (e at gone : ℕ) (old new : List Claim) (answer : Bool) → IsTally entries hs t → at < length hs → old ≡ get_or hs at []
    → gone + count_in entries e k new ≡ count_in entries e k old → answer ≡ nat_lt gone (tallied t k e) → answer ≡ any_needs entries e k (set hs at new)
needed_without entries hs t k e at gone old new answer is h o g a =
    let sum = count_set entries e k hs at new h in
    let there = ap (λ z. count_in entries e k z) o in
    let was = is.1 k e in
    let same : nat_lt gone (tallied t k e) ≡ nat_lt 0 (count_of_all entries e k (set hs at new)) = grind (arith, sum, there, was, g) in
    a ∙ same ∙ sym (any_counted entries e k (set hs at new))

count_le_length : (entries e : ℕ) (k : Class) (cs : List Claim) → count_in entries e k cs ≤ length cs
count_le_length entries e k [] = omega arith
count_le_length entries e k (c ∷ cs) = let ih = count_le_length entries e k cs in grind (arith, ih)

pub count_le_total : (entries e : ℕ) (k : Class) (hs : List (List Claim)) → count_of_all entries e k hs ≤ total hs
count_le_total entries e k [] = omega arith
count_le_total entries e k (c ∷ cs) = let ih = count_le_total entries e k cs in let one = count_le_length entries e k c in omega (arith, ih, one)

pub count_take : (entries e : ℕ) (k : Class) (cs : List Claim) (n : ℕ) → count_in entries e k (take n cs) + count_in entries e k (drop n cs) ≡ count_in entries e k cs
count_take entries e k [] zero = refl
count_take entries e k [] (suc n) = refl
count_take entries e k (c ∷ cs) zero = omega arith
count_take entries e k (c ∷ cs) (suc n) = let ih = count_take entries e k cs n in omega (arith, ih)

-- ---- a claim among the others

count_split : (entries e : ℕ) (k : Class) (cs : List Claim) (n : Name) → count_in entries e k cs ≡ count_in entries e k (without cs n) + counted_mode entries e k n (mode_in cs n)
count_split entries e k [] n = refl
count_split entries e k (c ∷ cs) n = let ih = count_split entries e k cs n in let same = same_entry c.name n entries in grind (arith, ih, same)

-- another claim on the name, or none, and all others as before
pub changed_count : (entries e : ℕ) (k : Class) (old new : List Claim) (n : Name) (was is : Option Mode) → mode_in old n ≡ was → mode_in new n ≡ is → without new n ≡ without old n
    → count_in entries e k new + counted_mode entries e k n was ≡ count_in entries e k old + counted_mode entries e k n is
changed_count entries e k old new n was is o m w =
    let a = count_split entries e k old n in
    let b = count_split entries e k new n in
    let same = ap (λ z. count_in entries e k z) w in
    let p = ap (λ z. counted_mode entries e k n z) o in
    let q = ap (λ z. counted_mode entries e k n z) m in
    omega (arith, a, b, same, p, q)

pub removed_count : (entries e : ℕ) (k : Class) (old new : List Claim) (n : Name) (m : Mode) → mode_in old n ≡ Some m → new ≡ without old n
    → count_in entries e k new + counted entries e k (record { name = n; mode = m }) ≡ count_in entries e k old
removed_count entries e k old new n m o w =
    let a = count_split entries e k old n in
    let same = ap (λ z. count_in entries e k z) w in
    let p = ap (λ z. counted_mode entries e k n z) o in
    omega (arith, a, same, p)

pub counts_itself : (entries : ℕ) (c : Claim) → counted entries (entry_number c.name entries) (class_of c.mode) c ≡ 1
counts_itself entries c = let s = class_itself (class_of c.mode) in grind (arith, s)

count_at : (entries e : ℕ) (k : Class) (hs : List (List Claim)) (at : ℕ) → count_in entries e k (get_or hs at []) ≤ count_of_all entries e k hs
count_at entries e k [] at = omega arith
count_at entries e k (c ∷ cs) zero = omega arith
count_at entries e k (c ∷ cs) (suc at) = let ih = count_at entries e k cs at in omega (arith, ih)

-- a claim that is held is counted
pub some_tallied : (entries : ℕ) (hs : List (List Claim)) (t : Tallied) (at : ℕ) (old : List Claim) (n : Name) (m : Mode) → at < length hs → old ≡ get_or hs at old → mode_in old n ≡ Some m → IsTally entries hs t
    → 0 < tallied t (class_of m) (entry_number n t.entries)
some_tallied entries hs t at old n m h o held is =
    let c : Claim = record { name = n; mode = m } in
    let e : ℕ = entry_number n entries in
    let k : Class = class_of m in
    let split = removed_count entries e k old (without old n) n m held refl in
    let one = counts_itself entries c in
    let there = ap (λ z. count_in entries e k z) (o ∙ get_or_default hs at old [] h) in
    let all = count_at entries e k hs at in
    let was = is.1 k e in
    let P : ℕ → Type 0 = λ z. 0 < tallied t k (entry_number n z) in
    subst P (sym is.0) (omega (arith, split, one, there, all, was))

pub first_tallied : (entries : ℕ) (hs : List (List Claim)) (t : Tallied) (at : ℕ) (old new : List Claim) (c : Claim) → at < length hs → old ≡ get_or hs at old → old ≡ c ∷ new → IsTally entries hs t
    → 0 < tallied t (class_of c.mode) (entry_number c.name t.entries)
first_tallied entries hs t at old new c h o s is =
    let same = same_itself c.name in
    let held : mode_in old c.name ≡ Some c.mode = rw s (grind (arith, same)) in
    some_tallied entries hs t at old c.name c.mode h o held is

-- a count stays far below what its cell holds
pub few_tallied : (entries : ℕ) (hs : List (List Claim)) (rs : List Rollback) (agents : ℕ) (own others : Room) (t : Tallied) (k : Class) (e : ℕ) → HasRoom hs rs agents own others → IsCounted entries hs own others t → tallied t k e < 2 ^ 63
few_tallied entries hs rs agents own others t k e has is =
    let all = count_le_total entries e k hs in
    let was = is.tally.1 k e in
    let p = has.pages in let q = has.spare in
    let a = is.own in let b = is.others in omega (arith, all, was, p, q, a, b)

pub few_claims : (entries : ℕ) (hs : List (List Claim)) (rs : List Rollback) (agents : ℕ) (own others : Room) (t : Tallied) → HasRoom hs rs agents own others → IsCounted entries hs own others t → (at : ℕ) → length (get_or hs at []) < 2 ^ 63
few_claims entries hs rs agents own others t has is at = let one = some_total hs at in let p = has.pages in let q = has.spare in let a = is.own in let b = is.others in omega (arith, one, p, q, a, b)

-- ---- no claims, and rollbacks that come and go

none_at : (n e : ℕ) → get_or {A = ℕ} (replicate n 0) e 0 ≡ 0
none_at zero e = refl
none_at (suc n) zero = refl
none_at (suc n) (suc e) = none_at n e

none_in : (entries e : ℕ) (k : Class) (n : ℕ) → count_of_all entries e k (replicate n []) ≡ 0
none_in entries e k zero = refl
none_in entries e k (suc n) = let ih = none_in entries e k n in omega (arith, ih)

none_tallied : (t : Tallied) (entries : ℕ) (k : Class) (e : ℕ) → t.share ≡ replicate entries 0 → t.exclusive ≡ replicate entries 0 → tallied t k e ≡ 0
none_tallied t entries Share e s x = ap (λ z. get_or z e 0) s ∙ none_at entries e
none_tallied t entries Exclusive e s x = ap (λ z. get_or z e 0) x ∙ none_at entries e

pub start_tally : (entries : ℕ) (hs : List (List Claim)) (n : ℕ) (t : Tallied) → hs ≡ replicate n [] → t.entries ≡ entries → t.share ≡ replicate entries 0 → t.exclusive ≡ replicate entries 0 → IsTally entries hs t
start_tally entries hs n t h e s x = (e, λ k entry. none_tallied t entries k entry s x ∙ sym (ap (λ z. count_of_all entries entry k z) h ∙ none_in entries entry k n))

count_append : (entries e : ℕ) (k : Class) (xs ys : List (List Claim)) → count_of_all entries e k (xs ++ ys) ≡ count_of_all entries e k xs + count_of_all entries e k ys
count_append entries e k [] ys = omega arith
count_append entries e k (x ∷ xs) ys = let ih = count_append entries e k xs ys in omega (arith, ih)

pub postponed_tally : (entries : ℕ) (hs : List (List Claim)) (at : ℕ) (old dest moved : List Claim) (hs_after : List (List Claim)) (t : Tallied) → at < length hs → old ≡ get_or hs at old → hs_after ≡ set hs at dest ++ moved ∷ [] → dest ≡ [] → moved ≡ old
    → IsTally entries hs t → IsTally entries hs_after t
postponed_tally entries hs at old dest moved hs_after t h o a d m is = (
  is.0,
  λ k e.
      let there = ap (λ z. count_in entries e k z) (o ∙ get_or_default hs at old [] h) in
      let sum = count_set entries e k hs at dest h in
      let none = ap (λ z. count_in entries e k z) d in
      let all = count_append entries e k (set hs at dest) (moved ∷ []) in
      let same = ap (λ z. count_in entries e k z) m in
      let now = ap (λ z. count_of_all entries e k z) a in
      let was = is.1 k e in
      omega (arith, there, sum, none, all, same, now, was),
)

count_remove : (entries e : ℕ) (k : Class) (hs : List (List Claim)) (at : ℕ) → at < length hs → count_of_all entries e k (remove hs at) + count_in entries e k (get_or hs at []) ≡ count_of_all entries e k hs
count_remove entries e k [] at h = absurd (omega arith)
count_remove entries e k (c ∷ cs) zero h = omega arith
count_remove entries e k (c ∷ cs) (suc at) h = let ih = count_remove entries e k cs at (omega (arith, h)) in omega (arith, ih)

pub ended_tally : (entries : ℕ) (hs : List (List Claim)) (at : ℕ) (t : Tallied) → at < length hs → get_or hs at [] ≡ [] → IsTally entries hs t → IsTally entries (remove hs at) t
ended_tally entries hs at t h none is = (
  is.0,
  λ k e.
      let sum = count_remove entries e k hs at h in
      let empty = ap (λ z. count_in entries e k z) none in
      let was = is.1 k e in
      omega (arith, sum, empty, was),
)

-- ---- as the code meets them

pub read_twice : (hs : List (List Claim)) (at : ℕ) (x y : List Claim) → at < length hs → x ≡ get_or hs at x → y ≡ get_or hs at y → x ≡ y
read_twice hs at x y h a b = a ∙ get_or_default hs at x [] h ∙ sym (b ∙ get_or_default hs at y [] h)

moved_counted : (entries : ℕ) (hs : List (List Claim)) (at : ℕ) (old new : List Claim) (own others own_after others_after : Room) (t after : Tallied) → at < length hs → old ≡ get_or hs at old → own_after.size ≡ own.size → others_after.size ≡ others.size → after.entries ≡ t.entries
    → ((class : Class) (entry : ℕ) → tallied after class entry + count_in entries entry class old ≡ tallied t class entry + count_in entries entry class new)
    → IsCounted entries hs own others t → IsCounted entries (set hs at new) own_after others_after after
moved_counted entries hs at old new own others own_after others_after t after h o u v s moved is = record {
  tally = moved_tally entries hs at old new t after h o s moved is.tally;
  own = let a = is.own in omega (arith, a, u);
  others = let a = is.others in omega (arith, a, v);
}

-- a claim on a name that the owner had not claimed
pub entered_counted : (entries : ℕ) (hs : List (List Claim)) (at : ℕ) (old new : List Claim) (n : Name) (m : Mode) (own others own_after others_after : Room) (t after : Tallied) → at < length hs → old ≡ get_or hs at old
    → mode_in old n ≡ None → mode_in new n ≡ Some m → without new n ≡ without old n → own_after.size ≡ own.size → others_after.size ≡ others.size → after.entries ≡ t.entries
    → ((class : Class) (entry : ℕ) → tallied after class entry ≡ tallied t class entry + counted t.entries entry class (record { name = n; mode = m }))
    → IsCounted entries hs own others t → IsCounted entries (set hs at new) own_after others_after after
entered_counted entries hs at old new n m own others own_after others_after t after h o a b w u v s counts is =
    moved_counted entries hs at old new own others own_after others_after t after h o u v s (λ k e.
    let change = changed_count entries e k old new n None (Some m) a b w in
    let one = counts k e in
    let same = ap (λ z. counted z e k (record { name = n; mode = m })) is.tally.0 in
    omega (arith, change, one, same)) is

-- another mode in a claim
pub changed_counted : (entries : ℕ) (hs : List (List Claim)) (at : ℕ) (old new : List Claim) (n : Name) (was m : Mode) (own others : Room) (t mid after : Tallied) → at < length hs → old ≡ get_or hs at old
    → mode_in old n ≡ Some was → mode_in new n ≡ Some m → without new n ≡ without old n → mid.entries ≡ t.entries → after.entries ≡ mid.entries
    → ((class : Class) (entry : ℕ) → tallied mid class entry + counted t.entries entry class (record { name = n; mode = was }) ≡ tallied t class entry)
    → ((class : Class) (entry : ℕ) → tallied after class entry ≡ tallied mid class entry + counted mid.entries entry class (record { name = n; mode = m }))
    → IsCounted entries hs own others t → IsCounted entries (set hs at new) own others after
changed_counted entries hs at old new n was m own others t mid after h o a b w s r less more is =
    moved_counted entries hs at old new own others own others t after h o refl refl (r ∙ s) (λ k e.
    let change = changed_count entries e k old new n (Some was) (Some m) a b w in
    let fewer = less k e in
    let one = more k e in
    let same = ap (λ z. counted z e k (record { name = n; mode = was })) is.tally.0 in
    let same2 = ap (λ z. counted z e k (record { name = n; mode = m })) (s ∙ is.tally.0) in
    omega (arith, change, fewer, one, same, same2)) is

pub removed_counted : (entries : ℕ) (hs : List (List Claim)) (at : ℕ) (old new : List Claim) (n : Name) (m : Mode) (own others own_after others_after : Room) (t after : Tallied) → at < length hs → old ≡ get_or hs at old
    → mode_in old n ≡ Some m → new ≡ without old n → own_after.size ≡ own.size → others_after.size ≡ others.size → after.entries ≡ t.entries
    → ((class : Class) (entry : ℕ) → tallied after class entry + counted t.entries entry class (record { name = n; mode = m }) ≡ tallied t class entry)
    → IsCounted entries hs own others t → IsCounted entries (set hs at new) own_after others_after after
removed_counted entries hs at old new n m own others own_after others_after t after h o a w u v s less is =
    moved_counted entries hs at old new own others own_after others_after t after h o u v s (λ k e.
    let change = removed_count entries e k old new n m a w in
    let fewer = less k e in
    let same = ap (λ z. counted z e k (record { name = n; mode = m })) is.tally.0 in
    omega (arith, change, fewer, same)) is

pub popped_counted : (entries : ℕ) (hs : List (List Claim)) (at : ℕ) (old new : List Claim) (c : Claim) (own others own_after others_after : Room) (t after : Tallied) → at < length hs → old ≡ get_or hs at old
    → old ≡ c ∷ new → own_after.size ≡ own.size → others_after.size ≡ others.size → after.entries ≡ t.entries
    → ((class : Class) (entry : ℕ) → tallied after class entry + counted t.entries entry class c ≡ tallied t class entry)
    → IsCounted entries hs own others t → IsCounted entries (set hs at new) own_after others_after after
popped_counted entries hs at old new c own others own_after others_after t after h o w u v s less is =
    moved_counted entries hs at old new own others own_after others_after t after h o u v s (λ k e.
    let change = ap (λ z. count_in entries e k z) w in
    let fewer = less k e in
    let same = ap (λ z. counted z e k c) is.tally.0 in
    omega (arith, change, fewer, same)) is

pub postponed_counted : (entries : ℕ) (hs : List (List Claim)) (at : ℕ) (old dest moved : List Claim) (hs_after : List (List Claim)) (own others : Room) (t : Tallied) → at < length hs → old ≡ get_or hs at old → hs_after ≡ set hs at dest ++ moved ∷ [] → dest ≡ [] → moved ≡ old
    → IsCounted entries hs own others t → IsCounted entries hs_after own others t
postponed_counted entries hs at old dest moved hs_after own others t h o a d m is = record { tally = postponed_tally entries hs at old dest moved hs_after t h o a d m is.tally; own = is.own; others = is.others }

pub ended_counted : (entries : ℕ) (hs : List (List Claim)) (at : ℕ) (own others : Room) (t : Tallied) → at < length hs → get_or hs at [] ≡ [] → IsCounted entries hs own others t → IsCounted entries (remove hs at) own others t
ended_counted entries hs at own others t h none is = record { tally = ended_tally entries hs at t h none is.tally; own = is.own; others = is.others }

pub start_counted : (entries : ℕ) (hs : List (List Claim)) (n : ℕ) (own others : Room) (t : Tallied) → hs ≡ replicate n [] → t.entries ≡ entries → t.share ≡ replicate entries 0 → t.exclusive ≡ replicate entries 0 → own.size < 2 ^ 32 → others.size ≤ 2 ^ 62 → IsCounted entries hs own others t
start_counted entries hs n own others t h e s x a b = record { tally = start_tally entries hs n t h e s x; own = a; others = b }

pub first_gone : (entries e : ℕ) (k : Class) (cs : List Claim) (n count : ℕ) → count ≡ count_in entries e k (take n cs) → count + count_in entries e k (drop n cs) ≡ count_in entries e k cs
first_gone entries e k cs n count a = ap (λ z. z + count_in entries e k (drop n cs)) a ∙ count_take entries e k cs n

with_exclusive : Bool → Bool → Interest
with_exclusive exclusive share = record { share = share; exclusive = exclusive }

with_share : Bool → Bool → Interest
with_share share exclusive = record { share = share; exclusive = exclusive }

pub both : (entries : ℕ) (hs : List (List Claim)) (e : ℕ) (share exclusive : Bool) → share ≡ any_needs entries e Share hs → exclusive ≡ any_needs entries e Exclusive hs → ◌≡◌ {A = Interest} (record { share = share; exclusive = exclusive }) (kept entries hs e)
unfolding with_exclusive with_share
both entries hs e share exclusive a b = ap (with_exclusive exclusive) a ∙ ap (with_share (any_needs entries e Share hs)) b

pub needed_after : (entries : ℕ) (hs : List (List Claim)) (t : Tallied) (k : Class) (e at gone count : ℕ) (old : List Claim) (answer : Bool) → IsTally entries hs t → at < length hs → old ≡ get_or hs at old
    → count ≡ count_in entries e k (take gone old) → answer ≡ nat_lt count (tallied t k e) → answer ≡ any_needs entries e k (set hs at (drop gone (get_or hs at [])))
needed_after entries hs t k e at gone count old answer is h o g a =
    let there = o ∙ get_or_default hs at old [] h in
    needed_without entries hs t k e at count (get_or hs at []) (drop gone (get_or hs at [])) answer is h refl (first_gone entries e k (get_or hs at []) gone count (g ∙ ap (λ z. count_in entries e k (take gone z)) there)) a

pub counts_mode : (entries : ℕ) (k : Class) (n : Name) (m : Mode) → counted_mode entries (entry_number n entries) k n (Some m) ≡ (if same_class (class_of m) k then 1 else 0)
counts_mode entries k n m = grind arith

pub needed_without_name : (entries : ℕ) (hs : List (List Claim)) (t : Tallied) (k : Class) (n : Name) (held : Option Mode) (gone : ℕ) (answer : Bool) → IsTally entries hs t → 0 < length hs → held ≡ mode_in (get_or hs 0 []) n
    → gone ≡ counted_mode entries (entry_number n entries) k n held → answer ≡ nat_lt gone (tallied t k (entry_number n entries)) → answer ≡ any_needs entries (entry_number n entries) k (set hs 0 (without (get_or hs 0 []) n))
needed_without_name entries hs t k n held gone answer is h m g a =
    let e = entry_number n entries in
    let cs = get_or hs 0 [] in
    let split = count_split entries e k cs n in
    let modes = ap (λ z. counted_mode entries e k n z) m in
    needed_without entries hs t k e 0 gone cs (without cs n) answer is h refl (omega (arith, split, modes, g)) a

pub gone_one : (entries : ℕ) (k d : Class) (n : Name) (m : Mode) (held : Option Mode) (b : Bool) (gone : ℕ) → held ≡ Some m → d ≡ class_of m → b ≡ same_class d k → gone ≡ (if b then 1 else 0) → gone ≡ counted_mode entries (entry_number n entries) k n held
gone_one entries k d n m held b gone h c s g = g ∙ ap (λ z. if z then 1 else 0) (s ∙ ap (λ z. same_class z k) c) ∙ sym (counts_mode entries k n m) ∙ ap (λ z. counted_mode entries (entry_number n entries) k n z) (sym h)

pub gone_none : (entries : ℕ) (k : Class) (n : Name) (held : Option Mode) (gone : ℕ) → held ≡ None → gone ≡ 0 → gone ≡ counted_mode entries (entry_number n entries) k n held
gone_none entries k n held gone h g = g ∙ ap (λ z. counted_mode entries (entry_number n entries) k n z) (sym h)

-- one claim more of the first ones
pub count_more : (entries e : ℕ) (k : Class) (cs : List Claim) (n : ℕ) (c : Claim) → drop n cs ≡ c ∷ drop (n + 1) cs → count_in entries e k (take (n + 1) cs) ≡ count_in entries e k (take n cs) + counted entries e k c
count_more entries e k cs n c s =
    let here = count_take entries e k cs n in
    let next = count_take entries e k cs (n + 1) in
    let split = ap (λ z. count_in entries e k z) s in
    omega (arith, here, next, split)

dropped_more : (cs : List Claim) (n most : ℕ) → drop n cs ≡ [] → n ≤ most → drop most cs ≡ []
dropped_more [] n zero s h = refl
dropped_more [] n (suc most) s h = refl
dropped_more (c ∷ cs) zero most s h = cc
dropped_more (c ∷ cs) (suc n) zero s h = absurd (omega (arith, h))
dropped_more (c ∷ cs) (suc n) (suc most) s h = dropped_more cs n most s (omega (arith, h))

pub count_end : (entries e : ℕ) (k : Class) (cs : List Claim) (n most : ℕ) → drop n cs ≡ [] → n ≤ most → count_in entries e k (take most cs) ≡ count_in entries e k (take n cs)
count_end entries e k cs n most s h =
    let here = count_take entries e k cs n in
    let next = count_take entries e k cs most in
    let none = ap (λ z. count_in entries e k z) s in
    let still = ap (λ z. count_in entries e k z) (dropped_more cs n most s h) in
    omega (arith, here, next, none, still)

pub counted_next : (entries e : ℕ) (k : Class) (cs : List Claim) (n : ℕ) (c : Claim) (answer : Bool) (count next : ℕ) → drop n cs ≡ c ∷ drop (n + 1) cs → answer ≡ needs entries e k c → count ≡ count_in entries e k (take n cs) → count ≤ n → next ≡ (if answer then count + 1 else count)
    → (next ≡ count_in entries e k (take (n + 1) cs)) × (next ≤ n + 1)
counted_next entries e k cs n c answer count next s a t h m =
    let more = count_more entries e k cs n c s in (grind (arith, more, a, t, m), grind (arith, h, m))
