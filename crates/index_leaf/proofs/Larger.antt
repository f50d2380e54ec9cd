-- What is found among entries with one more.
use Rattle.std.proofs.Common.{◌≡◌, ℕ, zero, suc, ◌<◌, ◌≤◌, ◌⊎◌, refl, ap, subst, inl, inr, arith, Bool, true, false, List, [], ◌∷◌, length, Option, Some, None, if◌then◌else◌}
use Rattle.std.proofs.lemmas.Bool.{leb-true, leb-false, eqb-false, eq-eqb, le-leb, lt-leb, cases_eq}
use Rattle.std.specs.Prelude.{leb, ◌==◌, ◌&&◌, Contains}
use Rattle.index_leaf.specs.declared.layout.Entry.{Entry}
use Rattle.index_leaf.specs.Entries.{AllAbove, IsRising}
use Rattle.index_leaf.specs.Search.{or_else, floor, find}
use Rattle.index_leaf.specs.Changes.{entered}
use Rattle.index_leaf.specs.Nodes.{none_within}
use Rattle.index_leaf.proofs.Places.{above_more, floor_above}
use Rattle.index_leaf.proofs.Steps.{contains_more}

-- ---- the entry itself

find_here_step : (x : Entry) (xs : List Entry) (e : Entry) (b c : Bool) → leb x.key e.key ≡ b → (x.key == e.key) ≡ c → (find xs e.key ≡ None → find (entered xs e) e.key ≡ Some e)
    → (if c then Some x else find xs e.key) ≡ None → find (entered (x ∷ xs) e) e.key ≡ Some e
find_here_step x xs e b true upto here ih none = absurd (cc)
find_here_step x xs e true false upto here ih none = rw (upto, here) (ih none)
find_here_step x xs e false false upto here ih none = let same = eq-eqb e.key e.key refl in rw (upto, same) refl

pub find_here : (es : List Entry) (e : Entry) → find es e.key ≡ None → find (entered es e) e.key ≡ Some e
find_here [] e none = let same = eq-eqb e.key e.key refl in rw same refl
find_here (x ∷ xs) e none = find_here_step x xs e (leb x.key e.key) (x.key == e.key) refl refl (λ h. find_here xs e h) none

find_other_step : (x : Entry) (xs : List Entry) (e : Entry) (key : ℕ) (b : Bool) → leb x.key e.key ≡ b → (e.key == key) ≡ false → find (entered xs e) key ≡ find xs key → find (entered (x ∷ xs) e) key ≡ find (x ∷ xs) key
find_other_step x xs e key true upto other ih = rw (upto, ih) refl
find_other_step x xs e key false upto other ih = rw (upto, other) refl

pub find_other : (es : List Entry) (e : Entry) (key : ℕ) → (e.key == key) ≡ false → find (entered es e) key ≡ find es key
find_other [] e key other = rw other refl
find_other (x ∷ xs) e key other = find_other_step x xs e key (leb x.key e.key) refl other (find_other xs e key other)

-- ---- the keys rise

above_entered_step : (x : Entry) (xs : List Entry) (e : Entry) (b : ℕ) (t : Bool) → leb x.key e.key ≡ t → AllAbove b (x ∷ xs) → b < e.key → AllAbove b (entered xs e) → AllAbove b (entered (x ∷ xs) e)
above_entered_step x xs e b true upto above lt ih = rw upto (above.0, ih)
above_entered_step x xs e b false upto above lt ih = rw upto (lt, above)

pub above_entered : (es : List Entry) (e : Entry) (b : ℕ) → AllAbove b es → b < e.key → AllAbove b (entered es e)
above_entered [] e b above lt = (lt, tt)
above_entered (x ∷ xs) e b above lt = above_entered_step x xs e b (leb x.key e.key) refl above lt (above_entered xs e b above.1 lt)

rising_entered_step : (x : Entry) (xs : List Entry) (e : Entry) (b c : Bool) → leb x.key e.key ≡ b → (x.key == e.key) ≡ c → IsRising (x ∷ xs) → (find xs e.key ≡ None → IsRising (entered xs e))
    → (if c then Some x else find xs e.key) ≡ None → IsRising (entered (x ∷ xs) e)
rising_entered_step x xs e b true upto here s ih none = absurd (cc)
rising_entered_step x xs e true false upto here s ih none =
    let le = leb-true x.key e.key upto in
    let ne = eqb-false x.key e.key here in
    let lt : x.key < e.key = elim (cases_eq x.key e.key) as (λ _. x.key < e.key) [ inl y ↦ absurd (ne y) | inr n ↦ omega arith ] in
    rw upto (above_entered xs e x.key s.0 lt, ih none)
rising_entered_step x xs e false false upto here s ih none =
    let lt = leb-false x.key e.key upto in
    rw upto ((lt, above_more xs e.key x.key lt s.0), s)

pub rising_entered : (es : List Entry) (e : Entry) → IsRising es → find es e.key ≡ None → IsRising (entered es e)
rising_entered [] e s none = (tt, tt)
rising_entered (x ∷ xs) e s none = rising_entered_step x xs e (leb x.key e.key) (x.key == e.key) refl refl s (λ h. rising_entered xs e s.1 h) none

-- ---- the greatest entry not above a key

within_above : (es : List Entry) (b after upto : ℕ) → AllAbove b es → after ≤ b → upto ≤ b → none_within es after upto ≡ true
within_above [] b after upto above low high = refl
within_above (x ∷ xs) b after upto above low high =
    let ih = within_above xs b after upto above.1 low high in
    let here = above.0 in
    let one = lt-leb x.key after (omega arith) in
    let two = lt-leb x.key upto (omega arith) in
    rw (one, two, ih) refl

-- the entry, where it is the greatest that is not above the key
abbrev pub or_new : List Entry → Entry → ℕ → Option Entry
or_new es e key = if leb e.key key && none_within es e.key key then Some e else floor es key

-- the entry comes after the first of these
after_first : (x e : Entry) (key : ℕ) (o new : Option Entry) (now : Bool) → new ≡ (if now then Some e else o)
    → or_else new (if leb x.key key then Some x else None) ≡ (if now then Some e else or_else o (if leb x.key key then Some x else None))
after_first x e key o new true is = rw is refl
after_first x e key o new false is = rw is refl

-- the entry comes before the first of these, whose key is not above the key
before_upto : (x : Entry) (o : Option Entry) (other : Option Entry) → or_else (or_else o (Some x)) other ≡ or_else o (Some x)
before_upto x (Some y) other = refl
before_upto x None other = refl

-- no other entry is not above the key
alone : (e : Entry) (b : Bool) → (if b then Some e else None) ≡ (if b && true then Some e else None)
alone e true = refl
alone e false = refl

floor_entered_step : (x : Entry) (xs : List Entry) (e : Entry) (key : ℕ) (b c : Bool) → leb x.key e.key ≡ b → leb x.key key ≡ c → IsRising (x ∷ xs)
    → floor (entered xs e) key ≡ or_new xs e key → floor (entered (x ∷ xs) e) key ≡ or_new (x ∷ xs) e key
floor_entered_step x xs e key true c first upto s ih = rw first (after_first x e key (floor xs key) (floor (entered xs e) key) (leb e.key key && none_within xs e.key key) ih)
floor_entered_step x xs e key false true first upto s ih =
    let lt = leb-false x.key e.key first in
    let le = leb-true x.key key upto in
    let here = le-leb e.key key (omega arith) in
    rw (first, upto, here) (before_upto x (floor xs key) (Some e))
floor_entered_step x xs e key false false first upto s ih =
    let lt = leb-false x.key e.key first in
    let past = leb-false x.key key upto in
    let none = floor_above xs x.key key s.0 (omega arith) in
    let clear = within_above xs x.key e.key key s.0 (omega arith) (omega arith) in
    rw (first, upto, none, clear) (alone e (leb e.key key))

pub floor_entered : (es : List Entry) (e : Entry) (key : ℕ) → IsRising es → floor (entered es e) key ≡ or_new es e key
floor_entered [] e key s = alone e (leb e.key key)
floor_entered (x ∷ xs) e key s = floor_entered_step x xs e key (leb x.key e.key) (leb x.key key) refl refl s (floor_entered xs e key s.1)

-- ---- which entries there are

length_entered_step : (x : Entry) (xs : List Entry) (e : Entry) (b : Bool) → leb x.key e.key ≡ b → length (entered xs e) ≡ suc (length xs) → length (entered (x ∷ xs) e) ≡ suc (suc (length xs))
length_entered_step x xs e true first ih = rw first (ap suc ih)
length_entered_step x xs e false first ih = rw first refl

pub length_entered : (es : List Entry) (e : Entry) → length (entered es e) ≡ suc (length es)
length_entered [] e = refl
length_entered (x ∷ xs) e = length_entered_step x xs e (leb x.key e.key) refl (length_entered xs e)

contains_first : (x : Entry) (xs : List Entry) (e y : Entry) → Contains (e ∷ x ∷ xs) y → Contains (x ∷ xs) y ⊎ (e ≡ y)
contains_first x xs e y (zero, lt, same) = inr same
contains_first x xs e y (suc k, lt, same) = inl (k, omega arith, same)

contains_later : (x : Entry) (xs : List Entry) (e y : Entry) → (Contains (entered xs e) y → Contains xs y ⊎ (e ≡ y)) → Contains (x ∷ entered xs e) y → Contains (x ∷ xs) y ⊎ (e ≡ y)
contains_later x xs e y ih (zero, lt, same) = inl (zero, omega arith, same)
contains_later x xs e y ih (suc k, lt, same) =
    elim (ih (k, omega arith, same)) as (λ _. Contains (x ∷ xs) y ⊎ (e ≡ y)) [
      | inl c ↦ inl (contains_more x xs y c)
      | inr is ↦ inr is
    ]

contains_entered_step : (x : Entry) (xs : List Entry) (e y : Entry) (b : Bool) → leb x.key e.key ≡ b → (Contains (entered xs e) y → Contains xs y ⊎ (e ≡ y)) → Contains (entered (x ∷ xs) e) y → Contains (x ∷ xs) y ⊎ (e ≡ y)
contains_entered_step x xs e y true first ih h = contains_later x xs e y ih (subst (λ (b : Bool). Contains (if b then x ∷ entered xs e else e ∷ x ∷ xs) y) first h)
contains_entered_step x xs e y false first ih h = contains_first x xs e y (subst (λ (b : Bool). Contains (if b then x ∷ entered xs e else e ∷ x ∷ xs) y) first h)

pub contains_entered : (es : List Entry) (e y : Entry) → Contains (entered es e) y → Contains es y ⊎ (e ≡ y)
contains_entered [] e y (zero, lt, same) = inr same
contains_entered [] e y (suc k, lt, same) = absurd (omega arith)
contains_entered (x ∷ xs) e y h = contains_entered_step x xs e y (leb x.key e.key) refl (λ c. contains_entered xs e y c) h
