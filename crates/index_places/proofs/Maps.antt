-- What the maps of places have.
use Rattle.std.proofs.Common.{◌≡◌, ◌⊎◌, ℕ, zero, suc, Bool, true, false, ◌&&◌, cond, List, [], ◌∷◌, Option, Some, None, is_some, refl, sym, ap, subst, ◌∙◌, arith, inl, inr}
use Rattle.std.specs.Prelude.{◌==◌, Contains}
use Rattle.std.specs.Ordering.{nat_cmp, eq_by_cmp, is_eq, ordering_then}
use Rattle.std.specs.declared.cmp.Ordering.{Ordering}
use Rattle.std.specs.declared.cmp.Ordering.TheVariants.{Less, Equal, Greater}
use Rattle.std.specs.FinMap.{get, insert, empty, get-insert, get-empty}
use Rattle.std.proofs.lemmas.Bool.Decides.{nat_tests}
use Rattle.ds_base.specs.declared.names.Place.{Place}
use Rattle.ds_model.specs.Rows.{spot_cmp, spot_cmp_total}
use Rattle.index_leaf.specs.declared.layout.Entry.{Entry}
use Rattle.table_pages.proofs.Booleans.{and_left, and_right, and_both, equal, itself}
use Rattle.index_places.specs.declared.slots.Given.{Given}
use Rattle.index_places.specs.Placing.{Places, places_from, same_place, is_place}

-- ---- places

pub same_is : (a b : Place) → same_place a b ≡ true → a ≡ b
same_is a b h =
    let p : a.page ≡ b.page = equal a.page b.page (and_left (a.page == b.page) (a.slot == b.slot) h) in
    let s : a.slot ≡ b.slot = equal a.slot b.slot (and_right (a.page == b.page) (a.slot == b.slot) h) in
    ap (λ (x : ℕ). record { page = x; slot = a.slot }) p ∙ ap (λ (x : ℕ). record { page = b.page; slot = x }) s

pub same_itself : (a : Place) → same_place a a ≡ true
same_itself a = and_both (a.page == a.page) (a.slot == a.slot) (itself a.page) (itself a.slot)

pub place_is : (o : Option Place) (p : Place) → is_place o p ≡ true → o ≡ Some p
place_is None p h = absurd cc
place_is (Some q) p h = ap (λ (x : Place). Some x) (same_is q p h)

pub is_it : (o : Option Place) (p : Place) → o ≡ Some p → is_place o p ≡ true
is_it o p e = ap (λ (x : Option Place). is_place x p) e ∙ same_itself p

-- ---- spots

both_equal : (o p : Ordering) → is_eq (ordering_then o p) ≡ (is_eq o && is_eq p)
both_equal Less p = refl
both_equal Equal p = refl
both_equal Greater p = refl

same_number : (q k : ℕ) → eq_by_cmp nat_cmp q k ≡ (k == q)
same_number q k = grind (arith, nat_tests)

same_spot : (table key j : ℕ) → eq_by_cmp spot_cmp (table, key) (table, j) ≡ (j == key)
same_spot table key j =
    both_equal (nat_cmp table table) (nat_cmp key j)
    ∙ ap (λ (b : Bool). b && is_eq (nat_cmp key j)) (same_number table table ∙ itself table)
    ∙ same_number key j

-- ---- one more

put_told : (m : Places) (table j key : ℕ) (p : Place) → get (insert m (table, j) p) (table, key) ≡ cond (j == key) (Some p) (get m (table, key))
put_told m table j key p = get-insert spot_cmp_total m (table, j) p (table, key) ∙ ap (λ (b : Bool). cond b (Some p) (get m (table, key))) (same_spot table key j)

abbrev Has : Places → ℕ → ℕ → Bool
Has m table key = is_some (get m (table, key))

still : (b : Bool) (p : Place) (o : Option Place) → is_some o ≡ true → is_some (cond b (Some p) o) ≡ true
still true p o h = refl
still false p o h = h

put_still : (m : Places) (table j key : ℕ) (p : Place) → Has m table key ≡ true → Has (insert m (table, j) p) table key ≡ true
put_still m table j key p h = ap is_some (put_told m table j key p) ∙ still (j == key) p (get m (table, key)) h

put_has : (m : Places) (table key : ℕ) (p : Place) → Has (insert m (table, key) p) table key ≡ true
put_has m table key p = ap is_some (put_told m table key key p) ∙ ap (λ (b : Bool). is_some (cond b (Some p) (get m (table, key)))) (itself key)

place_same : (a b : Place) → Some a ≡ Some b → a ≡ b
place_same a b e = cc

-- what was put, or what was there
put_cases : (b : Bool) (j key : ℕ) (p q : Place) (o : Option Place) → (j == key) ≡ b → cond b (Some p) o ≡ Some q → (o ≡ Some q) ⊎ ((j ≡ key) × (p ≡ q))
put_cases true j key p q o e h = inr (equal j key e, place_same p q h)
put_cases false j key p q o e h = inl h

-- ---- from the slots that were given

abbrev pub slot_of : ℕ → Place → Given
slot_of key place = record { key = key; place = place }

first_in : {A : Type 0} (x y : A) (xs : List A) → x ≡ y → Contains (x ∷ xs) y
first_in x y xs e = (0, omega arith, e)

later : {A : Type 0} (x : A) (xs : List A) (y : A) → Contains xs y → Contains (x ∷ xs) y
later x xs y (k, lt, same) = (suc k, omega arith, same)

from_get : (table key : ℕ) (q : Place) (m : Places) (gs : List Given) → get (places_from table m gs) (table, key) ≡ Some q → (get m (table, key) ≡ Some q) ⊎ Contains gs (slot_of key q)
from_get table key q m [] h = inl h
from_get table key q m (g ∷ gs) h =
    elim (from_get table key q (insert m (table, g.key) g.place) gs h) as (λ _. (get m (table, key) ≡ Some q) ⊎ Contains (g ∷ gs) (slot_of key q)) [
      | inl now ↦ elim (put_cases (g.key == key) g.key key g.place q (get m (table, key)) refl (sym (put_told m table g.key key g.place) ∙ now)) as (λ _. (get m (table, key) ≡ Some q) ⊎ Contains (g ∷ gs) (slot_of key q)) [
        | inl old ↦ inl old
        | inr new ↦ inr (first_in g (slot_of key q) gs (ap (λ (k : ℕ). slot_of k g.place) new.0 ∙ ap (slot_of key) new.1))
      ]
      | inr there ↦ inr (later g gs (slot_of key q) there)
    ]

abbrev told_at : Places → ℕ → ℕ → Option Place
told_at m table key = get m (table, key)

none_in : (table key : ℕ) (q : Place) → told_at empty table key ≡ Some q → ⊥
none_in table key q h = absurd (cc (get-empty {X = Place} spot_cmp (table, key), h))

pub places_get : (table key : ℕ) (q : Place) (gs : List Given) → get (places_from table empty gs) (table, key) ≡ Some q → Contains gs (slot_of key q)
places_get table key q gs h =
    elim (from_get table key q empty gs h) as (λ _. Contains gs (slot_of key q)) [
      | inl none ↦ absurd (none_in table key q none)
      | inr there ↦ there
    ]

from_still : (table key : ℕ) (m : Places) (gs : List Given) → Has m table key ≡ true → Has (places_from table m gs) table key ≡ true
from_still table key m [] h = h
from_still table key m (g ∷ gs) h = from_still table key (insert m (table, g.key) g.place) gs (put_still m table g.key key g.place h)

from_has : (table : ℕ) (g : Given) (m : Places) (gs : List Given) → Contains gs g → Has (places_from table m gs) table g.key ≡ true
from_has table g m [] (k, lt, same) = absurd (omega arith)
from_has table g m (x ∷ xs) (zero, lt, same) =
    from_still table g.key (insert m (table, x.key) x.place) xs
    (subst (λ (y : Given). Has (insert m (table, x.key) x.place) table y.key ≡ true) same (put_has m table x.key x.place))
from_has table g m (x ∷ xs) (suc k, lt, same) = from_has table g (insert m (table, x.key) x.place) xs (k, omega arith, same)

pub places_has : (table : ℕ) (g : Given) (gs : List Given) → Contains gs g → Has (places_from table empty gs) table g.key ≡ true
places_has table g gs c = from_has table g empty gs c

-- ---- entries

abbrev pub entry_at : ℕ → Place → Entry
entry_at key place = record { key = key; place = place }
