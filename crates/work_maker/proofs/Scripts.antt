-- The script that is made is one, for a group of four members.
use Rattle.std.proofs.Common.{lit<, lit≤, ◌≡◌, ℕ, zero, suc, ◌+◌, ◌*◌, ◌^◌, ◌<◌, ◌≤◌, Bool, true, false, cond, List, [], ◌∷◌, ◌++◌, length, map, drop, Some, None, refl, sym, ap, subst, ◌∙◌, arith, inl, inr}
use Rattle.std.specs.Prelude.{◌==◌, ◌&&◌, codes, Contains}
use Rattle.std.specs.Fmt.{decimal}
use Rattle.std.specs.List.{flat_map, AllByRecursion}
use Rattle.std.proofs.lemmas.Bool.{eqb-true, and_parts, cases_eq}
use Rattle.std.proofs.lemmas.Fmt.{decimal_injective}
use Rattle.std.proofs.lemmas.List.{append_cancel_left, map-append, length-map}
use Rattle.std.proofs.lemmas.List.Elements.{All-contains, All-from_recursion, Contains-append_left, Contains-append_right, Contains-push_cases}
use Rattle.ds_model.specs.declared.script.FailAt.TheVariants as fail_at
use Rattle.ds_model.specs.declared.script.Tran.{Tran}
use Rattle.ds_model.specs.declared.script.Part.{Part}
use Rattle.ds_model.specs.declared.script.Phase.{Phase}
use Rattle.ds_model.specs.Transactions.{Placed, placed_part, placed_phase}
use Rattle.ds_model.specs.Scripts.{Differ, counted, IsTran, TranLeavesFlags, flags_raised, part_raises, Lacks, FailIsAllowed, phase_fails, IsPart, AreParts, ArePhases, IsScript}
use Rattle.work_maker.specs.Made.{series, number_of, tran_from, restarts, part_from, phase_from, made}
use Rattle.work_maker.proofs.Series.{series_all, length_series, all_weaker, flat_none}
use Rattle.work_maker.proofs.Trans.{tran_made}

-- ---- what stands in which phase

-- where it restarts it has failed
after_failure : (phase member : ℕ) (failed : List ℕ) → (4 < phase → Contains failed 2) → restarts phase member ≡ true → Contains failed member
after_failure phase member failed h e =
    let p = and_parts (phase == 6) (member == 2) e in
    let six : phase ≡ 6 = eqb-true phase 6 p.0 in
    let two : member ≡ 2 = eqb-true member 2 p.1 in
    subst (λ (m : ℕ). Contains failed m) (sym two) (h (omega arith))

fails_well : (b : Bool) → FailIsAllowed (cond b (Some (fail_at.Commit 20)) None)
fails_well true = (lit≤ tt, lit< tt)
fails_well false = tt

-- a transaction of any number
record IsSome (t : Tran) : Type 0 where
  is_tran : IsTran t
  leaves : TranLeavesFlags t
  raises : flags_raised t.ops ≡ []

trans_some : (phase member x : ℕ) → phase ≤ 10 → member ≤ 4 → AllByRecursion IsSome (series (tran_from phase member) 50 1 x).0
trans_some phase member x p m = series_all IsSome (tran_from phase member) 50 1 x (λ k y a b.
    let t = tran_made phase member k y (omega arith) in
    record { is_tran = t.is_tran; leaves = t.leaves; raises = t.raises })

all_rest : {X : Type 0} (P : X → Type 0) (xs : List X) → AllByRecursion P xs → AllByRecursion P (drop 1 xs)
all_rest P [] h = tt
all_rest P (x ∷ xs) h = h.1

nothing_lacked : (raised xs : List ℕ) → xs ≡ [] → AllByRecursion (Lacks raised) xs
nothing_lacked raised xs e = subst (λ (ys : List ℕ). AllByRecursion (Lacks raised) ys) (sym e) tt

part_raises_none : (phase member x : ℕ) → phase ≤ 10 → member ≤ 4 → part_raises (part_from phase member x).0 ≡ []
unfolding part_from
part_raises_none phase member x p m =
    flat_none (λ (t : Tran). flags_raised t.ops) (series (tran_from phase member) 50 1 x).0 (all_weaker IsSome (λ (t : Tran). flags_raised t.ops ≡ []) (λ t h. h.raises) (series (tran_from phase member) 50 1 x).0 (trans_some phase member x p m))

part_is : (phase member x : ℕ) (failed : List ℕ) → phase ≤ 10 → 1 ≤ member → member ≤ 4 → (4 < phase → Contains failed 2) → IsPart 4 failed [] (part_from phase member x).0
unfolding part_from
part_is phase member x failed p low high h =
    let trans = (series (tran_from phase member) 50 1 x).0 in
    let some = trans_some phase member x p high in
    record {
      member_in = (low, high);
      restarts = after_failure phase member failed h;
      fail_in = fails_well (phase == 4 && member == 2);
      trans_are = all_weaker IsSome IsTran (λ t s. s.is_tran) trans some;
      first_alone = all_rest TranLeavesFlags trans (all_weaker IsSome TranLeavesFlags (λ t s. s.leaves) trans some);
      raises_its_own = nothing_lacked [] (part_raises (part_from phase member x).0) (part_raises_none phase member x p high);
    }

-- ---- the parts of a phase

-- all of them are of lower members
abbrev Lower : List ℕ → ℕ → Type 0
Lower had member = (m : ℕ) → Contains had m → m < member

lower_more : (had : List ℕ) (member : ℕ) → Lower had member → Lower (had ++ member ∷ []) (member + 1)
lower_more had member h m c =
    elim (Contains-push_cases had member m c) [
      | inl k ↦ let lt = h m k in omega arith
      | inr e ↦ omega arith
    ]

parts_are : (phase count member x : ℕ) (failed had : List ℕ) → phase ≤ 10 → 1 ≤ member → member + count ≤ 5 → (4 < phase → Contains failed 2) → Lower had member
    → AreParts 4 failed [] had (series (part_from phase) count member x).0
unfolding series part_from
parts_are phase zero member x failed had p low high h l = tt
parts_are phase (suc c) member x failed had p low high h l =
    let part : Part = (part_from phase member x).0 in
    let none : part_raises part ≡ [] = part_raises_none phase member x p (omega arith) in
    let rest = parts_are phase c (member + 1) (part_from phase member x).1 failed (had ++ member ∷ []) p (omega arith) (omega arith) h (lower_more had member l) in
    ((λ k. let lt = l member k in absurd (omega arith)), part_is phase member x failed p low (omega arith) h, subst (λ (raised : List ℕ). AreParts 4 failed raised (had ++ member ∷ []) (series (part_from phase) c (member + 1) (part_from phase member x).1).0) (sym none) rest)

-- ---- the phases

four_fails : (x : ℕ) → Contains (phase_fails (phase_from 4 x).0) 2
unfolding phase_from series part_from
four_fails x = (0, lit< tt, refl)

phases_are : (count phase x : ℕ) (failed : List ℕ) → phase + count ≤ 11 → (4 < phase → Contains failed 2) → ArePhases 4 failed (series phase_from count phase x).0
unfolding series phase_from
phases_are zero phase x failed le h = tt
phases_are (suc c) phase x failed le h =
    let it : Phase = (phase_from phase x).0 in
    let fails = phase_fails it in
    let later : 4 < phase + 1 → Contains (failed ++ fails) 2 = λ lt.
    elim (cases_eq phase 4) [
      | inl is ↦ Contains-append_right failed fails 2 (subst (λ (k : ℕ). Contains (phase_fails (phase_from k x).0) 2) (sym is) (four_fails x))
      | inr not ↦ Contains-append_left failed fails 2 (h (omega arith))
    ] in
    (parts_are phase 4 1 x failed [] (omega arith) (omega arith) (omega arith) h (λ m k. absurd (omega (arith, k.1))), phases_are c (phase + 1) (phase_from phase x).1 (failed ++ fails) (omega arith) later)

-- ---- numbers

length_counted : (from n : ℕ) → length (counted from n) ≡ n
length_counted from zero = refl
length_counted from (suc n) = ap suc (length_counted (from + 1) n)

counted_append : (from a b : ℕ) → counted from a ++ counted (from + a) b ≡ counted from (a + b)
counted_append from zero b = let e : from + 0 ≡ from = omega arith in let z : 0 + b ≡ b = omega arith in rw (e, z) refl
counted_append from (suc a) b =
    let e : from + suc a ≡ (from + 1) + a = omega arith in
    let s : suc a + b ≡ suc (a + b) = omega arith in
    rw (e, s) (ap (λ (xs : List ℕ). from ∷ xs) (counted_append (from + 1) a b))

map_map : {X Y Z : Type 0} (f : Y → Z) (g : X → Y) (xs : List X) → map f (map g xs) ≡ map (λ x. f (g x)) xs
map_map f g [] = refl
map_map f g (x ∷ xs) = ap (λ (ys : List _). f (g x) ∷ ys) (map_map f g xs)

trans_numbered : (phase member count place x : ℕ) → map (λ (t : Tran). t.number) (series (tran_from phase member) count place x).0 ≡ counted (number_of phase member place) count
unfolding series tran_from
trans_numbered phase member zero place x = refl
trans_numbered phase member (suc c) place x =
    let e : number_of phase member (place + 1) ≡ number_of phase member place + 1 = omega arith in
    ap (λ (ns : List ℕ). number_of phase member place ∷ ns) (trans_numbered phase member c (place + 1) (tran_from phase member place x).1 ∙ ap (λ (n : ℕ). counted n c) e)

-- the numbers of the transactions that a part has
abbrev numbers_in : List Placed → List ℕ
numbers_in ps = map (λ (p : Placed). p.1.number) ps

part_numbered : (phase member x : ℕ) → numbers_in (placed_part (part_from phase member x).0) ≡ counted (number_of phase member 1) 50
unfolding part_from
part_numbered phase member x =
    map_map (λ (p : Placed). p.1.number) (λ (t : Tran). let it : Placed = (member, t) in it) (series (tran_from phase member) 50 1 x).0 ∙ trans_numbered phase member 50 1 x

parts_numbered : (phase count member x : ℕ) → 1 ≤ member → numbers_in (flat_map placed_part (series (part_from phase) count member x).0) ≡ counted (number_of phase member 1) (50 * count)
unfolding series
parts_numbered phase zero member x low = refl
parts_numbered phase (suc c) member x low =
    let first = placed_part (part_from phase member x).0 in
    let others = flat_map placed_part (series (part_from phase) c (member + 1) (part_from phase member x).1).0 in
    let e : number_of phase (member + 1) 1 ≡ number_of phase member 1 + 50 = omega arith in
    let s : 50 + 50 * c ≡ 50 * suc c = omega arith in
    let rest = parts_numbered phase c (member + 1) (part_from phase member x).1 (omega arith) in
    map-append (λ (p : Placed). p.1.number) first others
    ∙ ap (λ (ns : List ℕ). ns ++ numbers_in others) (part_numbered phase member x)
    ∙ ap (λ (ns : List ℕ). counted (number_of phase member 1) 50 ++ ns) (rest ∙ ap (λ (n : ℕ). counted n (50 * c)) e)
    ∙ counted_append (number_of phase member 1) 50 (50 * c) ∙ ap (counted (number_of phase member 1)) s

phases_numbered : (count phase x : ℕ) → 1 ≤ phase → numbers_in (flat_map placed_phase (series phase_from count phase x).0) ≡ counted (number_of phase 1 1) (200 * count)
unfolding series phase_from
phases_numbered zero phase x low = refl
phases_numbered (suc c) phase x low =
    let first = placed_phase (phase_from phase x).0 in
    let others = flat_map placed_phase (series phase_from c (phase + 1) (phase_from phase x).1).0 in
    let e : number_of (phase + 1) 1 1 ≡ number_of phase 1 1 + 200 = omega arith in
    let s : 200 + 200 * c ≡ 200 * suc c = omega arith in
    let rest = phases_numbered c (phase + 1) (phase_from phase x).1 (omega arith) in
    map-append (λ (p : Placed). p.1.number) first others
    ∙ ap (λ (ns : List ℕ). ns ++ numbers_in others) (parts_numbered phase 4 1 x (omega arith))
    ∙ ap (λ (ns : List ℕ). counted (number_of phase 1 1) 200 ++ ns) (rest ∙ ap (λ (n : ℕ). counted n (200 * c)) e)
    ∙ counted_append (number_of phase 1 1) 200 (200 * c) ∙ ap (counted (number_of phase 1 1)) s

-- a list that counts on from a number does so for its length
counts_all : (xs : List ℕ) (from n : ℕ) → xs ≡ counted from n → (length xs ≡ n) × (xs ≡ counted from (length xs))
counts_all xs from n e =
    let len : length xs ≡ n = ap length e ∙ length_counted from n in
    (len, e ∙ ap (counted from) (sym len))

-- ---- names

abbrev named : ℕ → List ℕ
named n = codes "t" ++ decimal n

abbrev IsNamed : Placed → Type 0
IsNamed p = p.1.name ≡ named p.1.number

tran_named : (phase member place x : ℕ) → (tran_from phase member place x).0.name ≡ named (tran_from phase member place x).0.number
unfolding tran_from
tran_named phase member place x = refl

all_append : {X : Type 0} (P : X → Type 0) (xs ys : List X) → AllByRecursion P xs → AllByRecursion P ys → AllByRecursion P (xs ++ ys)
all_append P [] ys h k = k
all_append P (x ∷ xs) ys h k = (h.0, all_append P xs ys h.1 k)

all_flat : {X Y : Type 0} (P : Y → Type 0) (f : X → List Y) (xs : List X) → AllByRecursion (λ x. AllByRecursion P (f x)) xs → AllByRecursion P (flat_map f xs)
all_flat P f [] h = tt
all_flat P f (x ∷ xs) h = all_append P (f x) (flat_map f xs) h.0 (all_flat P f xs h.1)

all_map : {X Y : Type 0} (P : Y → Type 0) (f : X → Y) (xs : List X) → AllByRecursion (λ x. P (f x)) xs → AllByRecursion P (map f xs)
all_map P f [] h = tt
all_map P f (x ∷ xs) h = (h.0, all_map P f xs h.1)

part_named : (phase member x : ℕ) → AllByRecursion IsNamed (placed_part (part_from phase member x).0)
unfolding part_from
part_named phase member x =
    all_map IsNamed (λ (t : Tran). let it : Placed = (member, t) in it) (series (tran_from phase member) 50 1 x).0 (series_all (λ (t : Tran). t.name ≡ named t.number) (tran_from phase member) 50 1 x (λ k y a b. tran_named phase member k y))

phase_named : (phase x : ℕ) → AllByRecursion IsNamed (placed_phase (phase_from phase x).0)
unfolding phase_from
phase_named phase x =
    all_flat IsNamed placed_part (series (part_from phase) 4 1 x).0 (series_all (λ (p : Part). AllByRecursion IsNamed (placed_part p)) (part_from phase) 4 1 x (λ k y a b. part_named phase k y))

phases_named : (x : ℕ) → AllByRecursion IsNamed (flat_map placed_phase (series phase_from 10 1 x).0)
phases_named x = all_flat IsNamed placed_phase (series phase_from 10 1 x).0 (series_all (λ (p : Phase). AllByRecursion IsNamed (placed_phase p)) phase_from 10 1 x (λ k y a b. phase_named k y))

names_are : (ps : List Placed) → AllByRecursion IsNamed ps → map (λ (p : Placed). p.1.name) ps ≡ map named (numbers_in ps)
names_are [] h = refl
names_are (p ∷ ps) h = let rest = names_are ps h.1 in let first : p.1.name ≡ named p.1.number = h.0 in cc (first, rest)

apart : (k from n : ℕ) → k < from → from + n < 2 ^ 64 → AllByRecursion (λ (name : List ℕ). name ≡ named k → ⊥) (map named (counted from n))
apart k from zero lt small = tt
apart k from (suc n) lt small =
    ((λ e. let same : from ≡ k = decimal_injective from k (omega arith) (omega arith) (append_cancel_left (codes "t") (decimal from) (decimal k) e) in omega arith), apart k (from + 1) n (omega arith) (omega arith))

names_differ : (from n : ℕ) → from + n < 2 ^ 64 → Differ (map named (counted from n))
names_differ from zero small = tt
names_differ from (suc n) small =
    let others = map named (counted (from + 1) n) in
    ((λ c. All-contains (λ (name : List ℕ). name ≡ named from → ⊥) others (named from) (All-from_recursion (λ (name : List ℕ). name ≡ named from → ⊥) others (apart from (from + 1) n (omega arith) (omega arith))) c refl), names_differ (from + 1) n (omega arith))

-- ---- the script

pub is_script : (n : ℕ) → IsScript 4 (made n)
unfolding made
is_script n =
    let phases = (series phase_from 10 1 n).0 in
    let all = flat_map placed_phase phases in
    let counts = counts_all (numbers_in all) 1 (200 * 10) (phases_numbered 10 1 n (omega arith)) in
    let as_many : length (numbers_in all) ≡ length all = length-map all (λ (p : Placed). p.1.number) in
    let numbers : numbers_in all ≡ counted 1 (length all) = counts.1 ∙ ap (counted 1) as_many in
    let names : map (λ (p : Placed). p.1.name) all ≡ map named (counted 1 (length all)) = names_are all (phases_named n) ∙ ap (map named) numbers in
    let size : length all ≡ 2000 = omega (arith, counts.0, as_many) in
    record {
      phases_short = omega (arith, length_series phase_from 10 1 n);
      phases_are = phases_are 10 1 n [] (omega arith) (λ lt. absurd (omega arith));
      trans_short = omega (arith, size);
      numbers = numbers;
      names = subst Differ (sym names) (names_differ 1 (length all) (omega (arith, size)));
    }
