-- The list whose first record has the least number.
use Rattle.std.proofs.Common.{◌≡◌, ◌⊎◌, inl, inr, ℕ, zero, suc, ◌+◌, ◌<◌, ◌≤◌, Bool, true, false, cond, leb, List, [], ◌∷◌, ◌++◌, length, set, Option, Some, None, refl, sym, ap, subst, ◌∙◌, arith}
use Rattle.std.specs.List.{AllByRecursion}
use Rattle.ds_model.specs.declared.log.LogRecord.{LogRecord}
use Rattle.ds_model.specs.Logs.{by_lrsn}
use Rattle.log_merge.specs.Merging.{RisesFrom}
use Rattle.log_head.specs.Heads.{HeadState, number_of}
use Rattle.log_heads.specs.Heads.{least_of_two, least_from, head_at}
use Rattle.log_heads.specs.Logs.{list_at, together, NoneFalls}
use Rattle.log_heads.proofs.Order.{within-leb, above-leb, From, Above, from_rises, above_from, from_both, first_least, least_behind}

-- ---- which of two it is

-- the first, or a later one with a lesser number
pub record IsHere (i n : ℕ) (later : Option (ℕ × ℕ)) (p : ℕ × ℕ) : Type 0 where
  pub place : p.0 ≡ i
  pub number : p.1 ≡ n
  pub lower : (q : ℕ × ℕ) → later ≡ Some q → n ≤ q.1

pub record IsLater (n : ℕ) (later : Option (ℕ × ℕ)) (p : ℕ × ℕ) : Type 0 where
  pub is : later ≡ Some p
  pub lower : p.1 < n

abbrev pub Chosen : ℕ → ℕ → Option (ℕ × ℕ) → ℕ × ℕ → Type 0
Chosen i n later p = IsHere i n later p ⊎ IsLater n later p

some_is : (a b : ℕ × ℕ) → Some a ≡ Some b → a ≡ b
some_is a b e = cc

none_some : (q : ℕ × ℕ) → None ≡ Some q → ⊥
none_some q e = cc

place_is : (a b : ℕ × ℕ) → Some a ≡ Some b → a.0 ≡ b.0
place_is a b e = ap (λ (z : ℕ × ℕ). z.0) (some_is a b e)

number_is : (a b : ℕ × ℕ) → Some a ≡ Some b → a.1 ≡ b.1
number_is a b e = ap (λ (z : ℕ × ℕ). z.1) (some_is a b e)

chosen_when : (b : Bool) (i n : ℕ) (q p : ℕ × ℕ) → leb n q.1 ≡ b → cond {A = Option (ℕ × ℕ)} b (Some (i, n)) (Some q) ≡ Some p → Chosen i n (Some q) p
chosen_when true i n q p t e =
    let le : n ≤ q.1 = within-leb n q.1 t in
    inl (record { place = sym (place_is (i, n) p e); number = sym (number_is (i, n) p e); lower = λ s is. let same = number_is q s is in omega (arith, same, le) })
chosen_when false i n q p t e =
    let lt : q.1 < n = above-leb n q.1 t in
    inr (record { is = e; lower = let same = number_is q p e in omega (arith, same, lt) })

chosen : (i n : ℕ) (later : Option (ℕ × ℕ)) (p : ℕ × ℕ) → least_of_two i (Some n) later ≡ Some p → Chosen i n later p
chosen i n None p e = inl (record { place = sym (place_is (i, n) p e); number = sym (number_is (i, n) p e); lower = λ q is. absurd (none_some q is) })
chosen i n (Some q) p e = chosen_when (leb n q.1) i n q p refl e

-- ---- among heads

-- the head at the place has this number
pub record IsPlaced (i : ℕ) (heads : List HeadState) (p : ℕ × ℕ) : Type 0 where
  pub place : ℕ
  pub is : p.0 ≡ i + place
  pub within : place < length heads
  pub number : number_of (head_at heads place) ≡ Some p.1

placed_behind : (i : ℕ) (h : HeadState) (hs : List HeadState) (p : ℕ × ℕ) → IsPlaced (i + 1) hs p → IsPlaced i (h ∷ hs) p
placed_behind i h hs p it = record { place = suc it.place; is = omega (arith, it.is); within = omega (arith, it.within); number = it.number }

placed_by : (i n : ℕ) (h : HeadState) (hs : List HeadState) (p : ℕ × ℕ) → number_of h ≡ Some n → Chosen i n (least_from (i + 1) hs) p → (least_from (i + 1) hs ≡ Some p → IsPlaced (i + 1) hs p) → IsPlaced i (h ∷ hs) p
placed_by i n h hs p e (inl here) again = record { place = 0; is = omega (arith, here.place); within = omega arith; number = e ∙ ap (λ (m : ℕ). Some m) (sym here.number) }
placed_by i n h hs p e (inr later) again = placed_behind i h hs p (again later.is)

placed_when : (o : Option ℕ) (i : ℕ) (h : HeadState) (hs : List HeadState) (p : ℕ × ℕ) → number_of h ≡ o → least_of_two i o (least_from (i + 1) hs) ≡ Some p → (least_from (i + 1) hs ≡ Some p → IsPlaced (i + 1) hs p) → IsPlaced i (h ∷ hs) p
placed_when None i h hs p e is again = placed_behind i h hs p (again is)
placed_when (Some n) i h hs p e is again = placed_by i n h hs p e (chosen i n (least_from (i + 1) hs) p is) again

pub placed : (i : ℕ) (heads : List HeadState) (p : ℕ × ℕ) → least_from i heads ≡ Some p → IsPlaced i heads p
placed i [] p e = absurd (none_some p e)
placed i (h ∷ hs) p e = placed_when (number_of h) i h hs p refl e (placed (i + 1) hs p)

-- ---- among lists of records

abbrev pub first_number : List LogRecord → Option ℕ
first_number [] = None
first_number (r ∷ rs) = Some r.lrsn

-- at which place, counted from i, the first record has the least number, and which
abbrev pub least_in : ℕ → List (List LogRecord) → Option (ℕ × ℕ)
least_in i [] = None
least_in i (l ∷ ls) = least_of_two i (first_number l) (least_in (i + 1) ls)

none_by : (b : Bool) (x y : ℕ × ℕ) → cond b (Some x) (Some y) ≡ None → ⊥
none_by true x y e = cc
none_by false x y e = cc

none_when : (i n : ℕ) (later : Option (ℕ × ℕ)) → least_of_two i (Some n) later ≡ None → ⊥
none_when i n None e = cc
none_when i n (Some q) e = none_by (leb n q.1) (i, n) q e

pub none_least : (i : ℕ) (ls : List (List LogRecord)) → least_in i ls ≡ None → AllByRecursion (λ (l : List LogRecord). l ≡ []) ls
none_least i [] e = tt
none_least i ([] ∷ ls) e = (refl, none_least (i + 1) ls e)
none_least i ((x ∷ xs) ∷ ls) e = absurd (none_when i x.lrsn (least_in (i + 1) ls) e)

from_by : (i n : ℕ) (later : Option (ℕ × ℕ)) (p : ℕ × ℕ) → Chosen i n later p → (later ≡ Some p → i + 1 ≤ p.0) → i ≤ p.0
from_by i n later p (inl here) again = omega (arith, here.place)
from_by i n later p (inr behind) again = let above = again behind.is in omega (arith, above)

from_least : (i : ℕ) (ls : List (List LogRecord)) (p : ℕ × ℕ) → least_in i ls ≡ Some p → i ≤ p.0
from_least i [] p e = absurd (none_some p e)
from_least i ([] ∷ ls) p e = omega (arith, from_least (i + 1) ls p e)
from_least i ((x ∷ xs) ∷ ls) p e = from_by i x.lrsn (least_in (i + 1) ls) p (chosen i x.lrsn (least_in (i + 1) ls) p e) (from_least (i + 1) ls p)

-- below the least of two there is none
lower_when : (b : Bool) (low i n : ℕ) (s : ℕ × ℕ) → leb n s.1 ≡ b → ((q : ℕ × ℕ) → cond {A = Option (ℕ × ℕ)} b (Some (i, n)) (Some s) ≡ Some q → low ≤ q.1) → (low ≤ n) × (low ≤ s.1)
lower_when true low i n s t h = let at = h (i, n) refl in let le : n ≤ s.1 = within-leb n s.1 t in (at, omega (arith, at, le))
lower_when false low i n s t h = let at = h s refl in let lt : s.1 < n = above-leb n s.1 t in (omega (arith, at, lt), at)

lower_both : (low i n : ℕ) (later : Option (ℕ × ℕ)) → ((q : ℕ × ℕ) → least_of_two i (Some n) later ≡ Some q → low ≤ q.1) → (low ≤ n) × ((q : ℕ × ℕ) → later ≡ Some q → low ≤ q.1)
lower_both low i n None h = (h (i, n) refl, λ q e. absurd (none_some q e))
lower_both low i n (Some s) h = let both = lower_when (leb n s.1) low i n s refl h in (both.0, λ q e. let same = number_is s q e in omega (arith, same, both.1))

-- and below the least of all
all_from : (low i : ℕ) (ls : List (List LogRecord)) → NoneFalls ls → ((q : ℕ × ℕ) → least_in i ls ≡ Some q → low ≤ q.1) → From low (together ls)
all_from low i [] h le = tt
all_from low i ([] ∷ ls) h le = all_from low (i + 1) ls h.1 le
all_from low i ((x ∷ xs) ∷ ls) h le =
    let both = lower_both low i x.lrsn (least_in (i + 1) ls) le in
    from_both low (x ∷ xs) (together ls) (both.0, from_rises low x.lrsn xs both.0 h.0.1) (all_from low (i + 1) ls h.1 both.1)

-- the record with the least number, and the first in the order of the numbers
pub record IsFirst (ls : List (List LogRecord)) (k : ℕ) (r : LogRecord) (rs : List LogRecord) (n : ℕ) : Type 0 where
  pub number : r.lrsn ≡ n
  pub first : by_lrsn (together ls) ≡ r ∷ by_lrsn (together (set ls k rs))

abbrev cells : LogRecord → List LogRecord → List LogRecord
cells r rs = r ∷ rs

head_is : (x : LogRecord) (xs : List LogRecord) (r : LogRecord) (rs : List LogRecord) → cells x xs ≡ cells r rs → x ≡ r
head_is x xs r rs e = cc

tail_is : (x : LogRecord) (xs : List LogRecord) (r : LogRecord) (rs : List LogRecord) → cells x xs ≡ cells r rs → xs ≡ rs
tail_is x xs r rs e = cc

none_cells : (r : LogRecord) (rs : List LogRecord) → [] ≡ cells r rs → ⊥
none_cells r rs e = cc

first_here : (i : ℕ) (x : LogRecord) (xs : List LogRecord) (ls : List (List LogRecord)) (p : ℕ × ℕ) → NoneFalls ((x ∷ xs) ∷ ls) → IsHere i x.lrsn (least_in (i + 1) ls) p → IsFirst ((x ∷ xs) ∷ ls) 0 x xs p.1
first_here i x xs ls p h here = record {
  number = sym here.number;
  first = first_least x (xs ++ together ls) (from_both x.lrsn xs (together ls) (from_rises x.lrsn x.lrsn xs (omega arith) h.0.1) (all_from x.lrsn (i + 1) ls h.1 here.lower));
}

first_later : (x : LogRecord) (xs : List LogRecord) (ls : List (List LogRecord)) (k : ℕ) (r : LogRecord) (rs : List LogRecord) (n : ℕ) → RisesFrom 0 (x ∷ xs) → n < x.lrsn → IsFirst ls k r rs n → IsFirst ((x ∷ xs) ∷ ls) (suc k) r rs n
first_later x xs ls k r rs n h lt it =
    let below : r.lrsn < x.lrsn = omega (arith, it.number, lt) in
    record {
      number = it.number;
      first = least_behind r (x ∷ xs) (together ls) (together (set ls k rs)) (above_from r.lrsn x.lrsn (x ∷ xs) below (omega arith, from_rises x.lrsn x.lrsn xs (omega arith) h.1)) it.first;
    }

here_by : (i : ℕ) (x : LogRecord) (xs : List LogRecord) (ls : List (List LogRecord)) (p : ℕ × ℕ) (r : LogRecord) (rs : List LogRecord) → NoneFalls ((x ∷ xs) ∷ ls) → p.0 ≡ i + 0 → cells x xs ≡ r ∷ rs
    → Chosen i x.lrsn (least_in (i + 1) ls) p → IsFirst ((x ∷ xs) ∷ ls) 0 r rs p.1
here_by i x xs ls p r rs h at is (inl here) =
    subst (λ (q : LogRecord). IsFirst ((x ∷ xs) ∷ ls) 0 q rs p.1) (head_is x xs r rs is)
    (subst (λ (qs : List LogRecord). IsFirst ((x ∷ xs) ∷ ls) 0 x qs p.1) (tail_is x xs r rs is) (first_here i x xs ls p h here))
here_by i x xs ls p r rs h at is (inr later) = let above = from_least (i + 1) ls p later.is in absurd (omega (arith, above, at))

later_by : (i : ℕ) (x : LogRecord) (xs : List LogRecord) (ls : List (List LogRecord)) (p : ℕ × ℕ) (k : ℕ) (r : LogRecord) (rs : List LogRecord) → RisesFrom 0 (x ∷ xs) → p.0 ≡ i + suc k
    → Chosen i x.lrsn (least_in (i + 1) ls) p → (least_in (i + 1) ls ≡ Some p → IsFirst ls k r rs p.1) → IsFirst ((x ∷ xs) ∷ ls) (suc k) r rs p.1
later_by i x xs ls p k r rs h at (inl here) again = absurd (omega (arith, here.place, at))
later_by i x xs ls p k r rs h at (inr later) again = first_later x xs ls k r rs p.1 h later.lower (again later.is)

pub first_is : (i : ℕ) (ls : List (List LogRecord)) (p : ℕ × ℕ) (k : ℕ) (r : LogRecord) (rs : List LogRecord) → NoneFalls ls → least_in i ls ≡ Some p → p.0 ≡ i + k → list_at ls k ≡ r ∷ rs → IsFirst ls k r rs p.1
first_is i [] p k r rs h e at is = absurd (none_some p e)
first_is i ([] ∷ ls) p zero r rs h e at is = absurd (none_cells r rs is)
first_is i ([] ∷ ls) p (suc k) r rs h e at is =
    let it = first_is (i + 1) ls p k r rs h.1 e (omega (arith, at)) is in
    record { number = it.number; first = it.first }
first_is i ((x ∷ xs) ∷ ls) p zero r rs h e at is = here_by i x xs ls p r rs h at is (chosen i x.lrsn (least_in (i + 1) ls) p e)
first_is i ((x ∷ xs) ∷ ls) p (suc k) r rs h e at is =
    later_by i x xs ls p k r rs h.0 at (chosen i x.lrsn (least_in (i + 1) ls) p e) (λ more. first_is (i + 1) ls p k r rs h.1 more (omega (arith, at)) is)
