-- Undos that are put into a map by their numbers: those that pass a test stand there in the order in which they were put, if their numbers rise.
use Rattle.std.proofs.Common.{◌≡◌, ℕ, ◌<◌, Bool, true, false, cond, List, [], ◌∷◌, ◌++◌, length, map, reverse, Option, Some, None, inl, inr, refl, sym, ap, subst, ◌∙◌, arith, append_assoc}
use Rattle.std.specs.Prelude.{◌==◌, ◌||◌, ◌&&◌, T, filter, is_some}
use Rattle.std.specs.List.{AllByRecursion}
use Rattle.std.specs.Ordering.{nat_cmp, eq_by_cmp, is_lt}
use Rattle.std.specs.declared.cmp.Ordering.{Ordering}
use Rattle.std.specs.declared.cmp.Ordering.TheVariants.{Less, Equal, Greater}
use Rattle.std.specs.Cmp.{nat_cmp_total}
use Rattle.std.specs.FinMap.{find, entries, entries_sorted, get, insert, empty, get-entries, get-insert, get-empty, entries-insert, len-entries, len-empty}
use Rattle.std.specs.FinMap.Entries.{by_order, put, below_all, is_sorted}
use Rattle.std.proofs.lemmas.Bool.{cases_Bool, cases_order, or_left, both_ways, eq-eqb, false_from_ne_true}
use Rattle.std.proofs.lemmas.Bool.Decides.{nat_tests}
use Rattle.std.proofs.lemmas.List.{append-nil, reverse-append, map-append}
use Rattle.std.proofs.lemmas.List.Elements.{filter-append}
use Rattle.restart_plan.specs.declared.opened.Undo.{Undo}
use Rattle.restart_plan.specs.Opened.{Changes}
use Rattle.restart_plan.specs.Values.{falling}
use Rattle.sound_disk.specs.Transactions.{is_among, all_differ}
use Rattle.sound_appends.proofs.Left.{among_more, differ_parts}

abbrev pub Entries : Type 0
Entries = List (ℕ × Undo)

abbrev pub undos_in : Entries → List Undo
undos_in es = map (λ (e : ℕ × Undo). e.1) es

abbrev pub numbers_of : List Undo → List ℕ
numbers_of us = map (λ (u : Undo). u.lrsn) us

-- ---- the order of numbers

is_less : (k n : ℕ) → k < n → nat_cmp k n ≡ Less
is_less k n h = grind (arith, nat_tests)

is_greater : (k n : ℕ) → n < k → nat_cmp k n ≡ Greater
is_greater k n h = grind (arith, nat_tests)

is_equal : (k n : ℕ) → k ≡ n → nat_cmp k n ≡ Equal
is_equal k n h = grind (arith, nat_tests)

same_key : (k n : ℕ) → k ≡ n → eq_by_cmp nat_cmp k n ≡ true
same_key k n h = grind (arith, nat_tests)

other_key : (k n : ℕ) → n < k → eq_by_cmp nat_cmp k n ≡ false
other_key k n h = grind (arith, nat_tests)

less_is : (k n : ℕ) → T (is_lt (nat_cmp k n)) → k < n
less_is k n h = grind (arith, nat_tests)

key_turn : (q k : ℕ) → eq_by_cmp nat_cmp q k ≡ (k == q)
key_turn q k = grind (arith, nat_tests)

and_first : (a b : Bool) → T (a && b) → T a
and_first true b h = tt
and_first false b h = h

and_second : (a b : Bool) → T (a && b) → T b
and_second true b h = h
and_second false b h = absurd h

above_all : (n : ℕ) (es : Entries) → T (below_all nat_cmp n es) → AllByRecursion (λ (e : ℕ × Undo). n < e.0) es
above_all n [] h = tt
above_all n (e ∷ es) h = (less_is n e.0 (and_first (is_lt (nat_cmp n e.0)) (below_all nat_cmp n es) h), above_all n es (and_second (is_lt (nat_cmp n e.0)) (below_all nat_cmp n es) h))

above_less : (k n : ℕ) (es : Entries) → k < n → AllByRecursion (λ (e : ℕ × Undo). n < e.0) es → AllByRecursion (λ (e : ℕ × Undo). k < e.0) es
above_less k n [] l h = tt
above_less k n (e ∷ es) l h = (let f = h.0 in omega (arith, l, f), above_less k n es l h.1)

-- ---- one entry more

not_some : (u : Undo) → Some u ≡ None → ⊥
not_some u e = cc

rest_none : (k : ℕ) (e : ℕ × Undo) (es : Entries) → e.0 < k → find nat_cmp k (e ∷ es) ≡ None → find nat_cmp k es ≡ None
rest_none k e es l none = sym (ap (λ (b : Bool). cond b (Some e.1) (find nat_cmp k es)) (other_key k e.0 l)) ∙ none

not_here : (k : ℕ) (e : ℕ × Undo) (es : Entries) → k ≡ e.0 → find nat_cmp k (e ∷ es) ≡ None → ⊥
not_here k e es same none = not_some e.1 (sym (ap (λ (b : Bool). cond b (Some e.1) (find nat_cmp k es)) (same_key k e.0 same)) ∙ none)

put_first : (k : ℕ) (u : Undo) (e : ℕ × Undo) (es : Entries) → k < e.0 → put nat_cmp k u (e ∷ es) ≡ (k, u) ∷ e ∷ es
put_first k u e es l = ap (λ (o : Ordering). by_order o ((k, u) ∷ e ∷ es) ((e.0, u) ∷ es) (e ∷ put nat_cmp k u es)) (is_less k e.0 l)

put_later : (k : ℕ) (u : Undo) (e : ℕ × Undo) (es : Entries) → e.0 < k → put nat_cmp k u (e ∷ es) ≡ e ∷ put nat_cmp k u es
put_later k u e es l = ap (λ (o : Ordering). by_order o ((k, u) ∷ e ∷ es) ((e.0, u) ∷ es) (e ∷ put nat_cmp k u es)) (is_greater k e.0 l)

-- one that doesn't pass
put_other : (p : Undo → Bool) (k : ℕ) (u : Undo) (es : Entries) → p u ≡ false → find nat_cmp k es ≡ None → filter p (undos_in (put nat_cmp k u es)) ≡ filter p (undos_in es)
put_other p k u [] fails none = ap (λ (b : Bool). cond b (u ∷ []) []) fails
put_other p k u (e ∷ es) fails none = elim (cases_order k e.0) [
  | inl same ↦ absurd (not_here k e es same none)
  | inr o ↦ elim o [
    | inl l ↦ ap (λ (l : Entries). filter p (undos_in l)) (put_first k u e es l) ∙ ap (λ (b : Bool). cond b (u ∷ filter p (undos_in (e ∷ es))) (filter p (undos_in (e ∷ es)))) fails
    | inr g ↦ (
        ap (λ (l : Entries). filter p (undos_in l)) (put_later k u e es g)
        ∙ ap (λ (l : List Undo). cond (p e.1) (e.1 ∷ l) l) (put_other p k u es fails (rest_none k e es g none)))
  ]
]

-- what passes has a lower key
abbrev AreBelow : (Undo → Bool) → ℕ → Entries → Type 0
AreBelow p k es = AllByRecursion (λ (e : ℕ × Undo). p e.1 ≡ true → e.0 < k) es

none_above : (p : Undo → Bool) (k : ℕ) (es : Entries) → AllByRecursion (λ (e : ℕ × Undo). k < e.0) es → AreBelow p k es → filter p (undos_in es) ≡ []
none_above p k [] a b = refl
none_above p k (e ∷ es) a b =
    let above = a.0 in
    let fails : p e.1 ≡ false = false_from_ne_true (p e.1) (λ is. let below = b.0 is in omega (arith, above, below)) in
    ap (λ (t : Bool). cond t (e.1 ∷ filter p (undos_in es)) (filter p (undos_in es))) fails ∙ none_above p k es a.1 b.1

more_if : (b : Bool) (x u : Undo) (xs : List Undo) → cond b (x ∷ (xs ++ u ∷ [])) (xs ++ u ∷ []) ≡ cond b (x ∷ xs) xs ++ u ∷ []
more_if true x u xs = refl
more_if false x u xs = refl

put_own : (p : Undo → Bool) (k : ℕ) (u : Undo) (es : Entries) → p u ≡ true → find nat_cmp k es ≡ None → T (is_sorted nat_cmp es) → AreBelow p k es → filter p (undos_in (put nat_cmp k u es)) ≡ filter p (undos_in es) ++ u ∷ []
put_own p k u [] is none sorted below = ap (λ (b : Bool). cond b (u ∷ []) []) is
put_own p k u (e ∷ es) is none sorted below = elim (cases_order k e.0) [
  | inl same ↦ absurd (not_here k e es same none)
  | inr o ↦ elim o [
    | inl l ↦ (
        let above : AllByRecursion (λ (f : ℕ × Undo). k < f.0) (e ∷ es) = (l, above_less k e.0 es l (above_all e.0 es (and_first (below_all nat_cmp e.0 es) (is_sorted nat_cmp es) sorted))) in
        let nothing : filter p (undos_in (e ∷ es)) ≡ [] = none_above p k (e ∷ es) above below in
        ap (λ (l : Entries). filter p (undos_in l)) (put_first k u e es l)
        ∙ ap (λ (b : Bool). cond b (u ∷ filter p (undos_in (e ∷ es))) (filter p (undos_in (e ∷ es)))) is
        ∙ ap (λ (l : List Undo). u ∷ l) nothing
        ∙ ap (λ (l : List Undo). l ++ u ∷ []) (sym nothing))
    | inr g ↦ (
        ap (λ (l : Entries). filter p (undos_in l)) (put_later k u e es g)
        ∙ ap (λ (l : List Undo). cond (p e.1) (e.1 ∷ l) l) (put_own p k u es is (rest_none k e es g none) (and_second (below_all nat_cmp e.0 es) (is_sorted nat_cmp es) sorted) below.1)
        ∙ more_if (p e.1) e.1 u (filter p (undos_in es)))
  ]
]

-- the key of an undo is its number
abbrev AreKeyed : Entries → Type 0
AreKeyed es = AllByRecursion (λ (e : ℕ × Undo). e.1.lrsn ≡ e.0) es

keyed_put : (u : Undo) (es : Entries) → AreKeyed es → AreKeyed (put nat_cmp u.lrsn u es)
keyed_put u [] h = (refl, tt)
keyed_put u (e ∷ es) h = elim (cases_order u.lrsn e.0) [
  | inl same ↦ subst AreKeyed (sym (ap (λ (o : Ordering). by_order o ((u.lrsn, u) ∷ e ∷ es) ((e.0, u) ∷ es) (e ∷ put nat_cmp u.lrsn u es)) (is_equal u.lrsn e.0 same))) (same, h.1)
  | inr o ↦ elim o [
    | inl l ↦ subst AreKeyed (sym (put_first u.lrsn u e es l)) (refl, h)
    | inr g ↦ subst AreKeyed (sym (put_later u.lrsn u e es g)) (h.0, keyed_put u es h.1)
  ]
]

below_from : (p : Undo → Bool) (k : ℕ) (es : Entries) → AreKeyed es → AllByRecursion (λ (u : Undo). u.lrsn < k) (filter p (undos_in es)) → AreBelow p k es
below_from p k [] h b = tt
below_from p k (e ∷ es) h b = elim (cases_Bool (p e.1)) [
  | inl is ↦ (
      let all : AllByRecursion (λ (u : Undo). u.lrsn < k) (e.1 ∷ filter p (undos_in es)) =
      subst (AllByRecursion (λ (u : Undo). u.lrsn < k)) (ap (λ (t : Bool). cond t (e.1 ∷ filter p (undos_in es)) (filter p (undos_in es))) is) b in
      (λ same. subst (λ (n : ℕ). n < k) h.0 all.0, below_from p k es h.1 all.1))
  | inr is ↦ (
      let all : AllByRecursion (λ (u : Undo). u.lrsn < k) (filter p (undos_in es)) =
      subst (AllByRecursion (λ (u : Undo). u.lrsn < k)) (ap (λ (t : Bool). cond t (e.1 ∷ filter p (undos_in es)) (filter p (undos_in es))) is) b in
      (λ same. absurd (both_ways (p e.1) is same), below_from p k es h.1 all))
]

-- ---- the map

abbrev pub put_all : Changes → List Undo → Changes
put_all m [] = m
put_all m (u ∷ us) = put_all (insert m u.lrsn u) us

-- what it holds behind these
record Holds (p : Undo → Bool) (m : Changes) (done : List Undo) : Type 0 where
  keyed : AreKeyed (entries m)
  has : (k : ℕ) → is_some (get m k) ≡ is_among k (numbers_of done)
  passes : filter p (undos_in (entries m)) ≡ filter p done

is_none : {A : Type 0} (o : Option A) → is_some o ≡ false → o ≡ None
is_none None h = refl
is_none (Some x) h = absurd cc

or_none : (a : Bool) → (a || false) ≡ a
or_none true = refl
or_none false = refl

or_turn : (a b : Bool) → (a || b) ≡ (b || a)
or_turn true true = refl
or_turn true false = refl
or_turn false true = refl
or_turn false false = refl

some_if : {X : Type 0} (b : Bool) (v : X) (o : Option X) → is_some (cond b (Some v) o) ≡ (b || is_some o)
some_if true v o = refl
some_if false v o = refl

has_put : (m : Changes) (u : Undo) (done : List Undo) (k : ℕ) → is_some (get m k) ≡ is_among k (numbers_of done) → is_some (get (insert m u.lrsn u) k) ≡ is_among k (numbers_of (done ++ u ∷ []))
has_put m u done k h =
    ap (λ (o : Option Undo). is_some o) (get-insert nat_cmp_total m u.lrsn u k ∙ ap (λ (b : Bool). cond b (Some u) (get m k)) (key_turn k u.lrsn))
    ∙ some_if (u.lrsn == k) u (get m k)
    ∙ ap (λ (b : Bool). (u.lrsn == k) || b) h
    ∙ or_turn (u.lrsn == k) (is_among k (numbers_of done))
    ∙ ap (λ (b : Bool). is_among k (numbers_of done) || b) (sym (or_none (u.lrsn == k)))
    ∙ sym (among_more k (numbers_of done) (u.lrsn ∷ []))
    ∙ ap (is_among k) (sym (map-append (λ (v : Undo). v.lrsn) done (u ∷ [])))

filter_last : (p : Undo → Bool) (done : List Undo) (u : Undo) (b : Bool) → p u ≡ b → filter p (done ++ u ∷ []) ≡ filter p done ++ cond b (u ∷ []) []
filter_last p done u b e = filter-append p done (u ∷ []) ∙ ap (λ (t : Bool). filter p done ++ cond t (u ∷ []) []) e

passes_put : (p : Undo → Bool) (m : Changes) (u : Undo) (done : List Undo) → Holds p m done → is_among u.lrsn (numbers_of done) ≡ false → (p u ≡ true → AllByRecursion (λ (v : Undo). v.lrsn < u.lrsn) (filter p done))
    → filter p (undos_in (entries (insert m u.lrsn u))) ≡ filter p (done ++ u ∷ [])
passes_put p m u done h new low =
    let none : find nat_cmp u.lrsn (entries m) ≡ None = sym (get-entries m u.lrsn) ∙ is_none (get m u.lrsn) (h.has u.lrsn ∙ new) in
    let is : filter p (undos_in (entries (insert m u.lrsn u))) ≡ filter p (undos_in (put nat_cmp u.lrsn u (entries m))) = ap (λ (es : Entries). filter p (undos_in es)) (entries-insert nat_cmp_total m u.lrsn u) in
    elim (cases_Bool (p u)) [
      | inl passed ↦ (
          let below : AreBelow p u.lrsn (entries m) = below_from p u.lrsn (entries m) h.keyed (subst (AllByRecursion (λ (v : Undo). v.lrsn < u.lrsn)) (sym h.passes) (low passed)) in
          is ∙ put_own p u.lrsn u (entries m) passed none (entries_sorted m) below ∙ ap (λ (l : List Undo). l ++ u ∷ []) h.passes ∙ sym (filter_last p done u true passed))
      | inr fails ↦ is ∙ put_other p u.lrsn u (entries m) fails none ∙ h.passes ∙ sym (append-nil (filter p done)) ∙ sym (filter_last p done u false fails)
    ]

-- strictly rising numbers
abbrev pub AreRising : List Undo → Type 0
AreRising [] = Unit {0}
AreRising (u ∷ us) = AllByRecursion (λ (v : Undo). u.lrsn < v.lrsn) us × AreRising us

all_at : (P : Undo → Type 0) (xs : List Undo) (u : Undo) (ys : List Undo) → AllByRecursion P (xs ++ u ∷ ys) → P u
all_at P [] u ys h = h.0
all_at P (x ∷ xs) u ys h = all_at P xs u ys h.1

rising_before : (xs : List Undo) (u : Undo) (ys : List Undo) → AreRising (xs ++ u ∷ ys) → AllByRecursion (λ (v : Undo). v.lrsn < u.lrsn) xs
rising_before [] u ys h = tt
rising_before (x ∷ xs) u ys h = (all_at (λ (v : Undo). x.lrsn < v.lrsn) xs u ys h.0, rising_before xs u ys h.1)

holds_all : (p : Undo → Bool) (m : Changes) (done us : List Undo) → Holds p m done → all_differ (numbers_of (done ++ us)) ≡ true → AreRising (filter p (done ++ us)) → Holds p (put_all m us) (done ++ us)
holds_all p m done [] h differ rises = subst (Holds p m) (sym (append-nil done)) h
holds_all p m done (u ∷ us) h differ rises =
    let same : (done ++ u ∷ []) ++ us ≡ done ++ u ∷ us = append_assoc done (u ∷ []) us in
    let parts : all_differ (numbers_of done ++ numbers_of (u ∷ us)) ≡ true = subst (λ (ns : List ℕ). all_differ ns ≡ true) (map-append (λ (v : Undo). v.lrsn) done (u ∷ us)) differ in
    let new : is_among u.lrsn (numbers_of done) ≡ false =
    false_from_ne_true (is_among u.lrsn (numbers_of done)) (λ is. differ_parts (numbers_of done) (numbers_of (u ∷ us)) u.lrsn parts is (or_left (u.lrsn == u.lrsn) (is_among u.lrsn (numbers_of us)) (eq-eqb u.lrsn u.lrsn refl))) in
    let low : p u ≡ true → AllByRecursion (λ (v : Undo). v.lrsn < u.lrsn) (filter p done) =
    λ passed. rising_before (filter p done) u (filter p us) (subst AreRising (filter-append p done (u ∷ us) ∙ ap (λ (b : Bool). filter p done ++ cond b (u ∷ filter p us) (filter p us)) passed) rises) in
    let more : Holds p (insert m u.lrsn u) (done ++ u ∷ []) = record {
      keyed = subst AreKeyed (sym (entries-insert nat_cmp_total m u.lrsn u)) (keyed_put u (entries m) h.keyed);
      has = λ k. has_put m u done k (h.has k);
      passes = passes_put p m u done h new low;
    } in
    subst (Holds p (put_all (insert m u.lrsn u) us)) same
    (holds_all p (insert m u.lrsn u) (done ++ u ∷ []) us more (subst (λ (l : List Undo). all_differ (numbers_of l) ≡ true) (sym same) differ) (subst (λ (l : List Undo). AreRising (filter p l)) (sym same) rises))

no_length : {A : Type 0} (es : List A) → length es ≡ 0 → es ≡ []
no_length [] e = refl
no_length (x ∷ es) e = absurd (omega arith)

no_entries : entries (empty {X = Undo} {R = nat_cmp}) ≡ []
no_entries = no_length (entries (empty {X = Undo} {R = nat_cmp})) (sym (len-entries (empty {X = Undo} {R = nat_cmp})) ∙ len-empty nat_cmp Undo)

none_held : (p : Undo → Bool) → Holds p empty []
none_held p = record {
  keyed = subst AreKeyed (sym no_entries) tt;
  has = λ k. ap (λ (o : Option Undo). is_some o) (get-empty {X = Undo} nat_cmp k);
  passes = ap (λ (es : Entries). filter p (undos_in es)) no_entries;
}

pub in_order : (p : Undo → Bool) (us : List Undo) → all_differ (numbers_of us) ≡ true → AreRising (filter p us) → filter p (undos_in (entries (put_all empty us))) ≡ filter p us
in_order p us differ rises = (holds_all p empty [] us (none_held p) differ rises).passes

-- ---- in falling order

reverse_if : (b : Bool) (u : Undo) (us : List Undo) → reverse us ++ cond b (u ∷ []) [] ≡ reverse (cond b (u ∷ us) us)
reverse_if true u us = sym (reverse-append (u ∷ []) us)
reverse_if false u us = append-nil (reverse us)

pub turned : (p : Undo → Bool) (es : Entries) → filter p (falling es) ≡ reverse (filter p (undos_in es))
turned p [] = refl
turned p (e ∷ es) =
    ap (λ (l : Entries). filter p (undos_in l)) (reverse-append (e ∷ []) es)
    ∙ ap (λ (l : List Undo). filter p l) (map-append (λ (f : ℕ × Undo). f.1) (reverse es) (e ∷ []))
    ∙ filter-append p (undos_in (reverse es)) (e.1 ∷ [])
    ∙ ap (λ (l : List Undo). l ++ cond (p e.1) (e.1 ∷ []) []) (turned p es)
    ∙ reverse_if (p e.1) e.1 (filter p (undos_in es))
