-- What the answers of a search mean.
use Rattle.std.proofs.Common.{◌≡◌, ℕ, zero, suc, ◌<◌, ◌≤◌, refl, sym, ap, ◌∙◌, subst, arith, Bool, true, false, List, [], ◌∷◌, Option, Some, None, if◌then◌else◌}
use Rattle.std.proofs.lemmas.Bool.{leb-true, leb-false, eqb-true, eqb-false, eq-eqb, ne_eqb}
use Rattle.std.specs.Prelude.{leb, ◌==◌, ◌↔◌, IsTrue, Contains}
use Rattle.ds_base.specs.declared.names.Place.{Place}
use Rattle.index_leaf.specs.declared.layout.Entry.{Entry}
use Rattle.index_leaf.specs.declared.step.Look.{Look}
use Rattle.index_leaf.specs.declared.step.Look.TheVariants.{Right, Down, Found, Absent}
use Rattle.index_leaf.specs.Entries.{high_of, right_field, entries_of, AllAbove, IsRising}
use Rattle.index_leaf.specs.Search.{is_branch, is_beyond, or_else, floor, find, down_to, found_at, look_of, IsFloor}
use Rattle.index_leaf.proofs.Places.{above_at}

-- ---- the answer by its parts

abbrev pub by_parts : Bool → Bool → ℕ → Option Entry → Option Entry → Look
by_parts beyond branch right below here = if beyond then Right right else if branch then down_to below else found_at here

goes_right : (beyond branch : Bool) (right number : ℕ) (below here : Option Entry) → by_parts beyond branch right below here ≡ Right number → (beyond ≡ true) × (number ≡ right)
goes_right true branch right number below here is = (refl, cc)
goes_right false true right number None here is = absurd (cc)
goes_right false true right number (Some e) here is = absurd (cc)
goes_right false false right number below None is = absurd (cc)
goes_right false false right number below (Some e) is = absurd (cc)

pub right_is : (page : List ℕ) (key number : ℕ) → (look_of page key ≡ Right number) ↔ (IsTrue (is_beyond (high_of page) key) × (number ≡ right_field page))
right_is page key number = (
  λ is. goes_right (is_beyond (high_of page) key) (is_branch page) (right_field page) number (floor (entries_of page) key) (find (entries_of page) key) is,
  λ h. rw (h.0, h.1) refl,
)

goes_down : (beyond branch : Bool) (right child : ℕ) (below here : Option Entry) → by_parts beyond branch right below here ≡ Down child → (e : Entry) × (below ≡ Some e) × (child ≡ e.place.page)
goes_down true branch right child below here is = absurd (cc)
goes_down false true right child None here is = absurd (cc)
goes_down false true right child (Some e) here is = (e, refl, cc)
goes_down false false right child below None is = absurd (cc)
goes_down false false right child below (Some e) is = absurd (cc)

finds : (beyond branch : Bool) (right : ℕ) (place : Place) (below here : Option Entry) → by_parts beyond branch right below here ≡ Found place → (e : Entry) × (here ≡ Some e) × (place ≡ e.place)
finds true branch right place below here is = absurd (cc)
finds false true right place None here is = absurd (cc)
finds false true right place (Some e) here is = absurd (cc)
finds false false right place below None is = absurd (cc)
finds false false right place below (Some e) is = (e, refl, cc)

finds_none : (beyond branch : Bool) (right : ℕ) (below here : Option Entry) → branch ≡ false → by_parts beyond branch right below here ≡ Absent → here ≡ None
finds_none true branch right below here leaf is = absurd (cc)
finds_none false true right below here leaf is = absurd (cc)
finds_none false false right below None leaf is = refl
finds_none false false right below (Some e) leaf is = absurd (cc)

-- ---- entries that are found

pub contains_more : (x : Entry) (es : List Entry) (e : Entry) → Contains es e → Contains (x ∷ es) e
contains_more x es e h = (suc h.0, let lt = h.1 in omega (arith, lt), h.2)

floor_among_step : (x : Entry) (es : List Entry) (key : ℕ) (e : Entry) (o : Option Entry) (b : Bool) → floor es key ≡ o → leb x.key key ≡ b → (floor es key ≡ Some e → Contains es e × (e.key ≤ key)) → or_else o (if b then Some x else None) ≡ Some e → Contains (x ∷ es) e × (e.key ≤ key)
floor_among_step x es key e (Some y) b is upto ih here = let h = ih (is ∙ here) in (contains_more x es e h.0, h.1)
floor_among_step x es key e None true is upto ih here =
    let same : x ≡ e = cc in
    let le = leb-true x.key key upto in
    ((zero, omega arith, same), subst (λ (y : Entry). y.key ≤ key) same le)
floor_among_step x es key e None false is upto ih here = absurd (cc)

pub floor_among : (es : List Entry) (key : ℕ) (e : Entry) → floor es key ≡ Some e → Contains es e × (e.key ≤ key)
floor_among [] key e is = absurd (cc)
floor_among (x ∷ es) key e is = floor_among_step x es key e (floor es key) (leb x.key key) refl refl (λ h. floor_among es key e h) is

-- an entry among these is above what they all are above
pub contained_above : (es : List Entry) (b : ℕ) (e : Entry) → AllAbove b es → Contains es e → b < e.key
contained_above es b e above h = subst (λ (x : Entry). b < x.key) h.2 (above_at es b h.0 e above h.1)

floor_none_step : (x : Entry) (es : List Entry) (key : ℕ) (other : Entry) (o : Option Entry) (b : Bool) → floor es key ≡ o → leb x.key key ≡ b → (floor es key ≡ None → Contains es other → key < other.key) → or_else o (if b then Some x else None) ≡ None → Contains (x ∷ es) other → key < other.key
floor_none_step x es key other (Some y) b is upto ih none h = absurd (cc)
floor_none_step x es key other None true is upto ih none h = absurd (cc)
floor_none_step x es key other None false is upto ih none (zero, lt, same) = subst (λ (y : Entry). key < y.key) same (leb-false x.key key upto)
floor_none_step x es key other None false is upto ih none (suc k, lt, same) = ih is (k, omega arith, same)

pub floor_none_above : (es : List Entry) (key : ℕ) (other : Entry) → floor es key ≡ None → Contains es other → key < other.key
floor_none_above [] key other none (k, lt, same) = absurd (omega arith)
floor_none_above (x ∷ es) key other none h = floor_none_step x es key other (floor es key) (leb x.key key) refl refl (λ n c. floor_none_above es key other n c) none h

floor_greatest_step : (x : Entry) (es : List Entry) (key : ℕ) (e other : Entry) (o : Option Entry) (b : Bool) → floor es key ≡ o → leb x.key key ≡ b → AllAbove x.key es
    → (floor es key ≡ Some e → Contains es other → other.key ≤ e.key) → or_else o (if b then Some x else None) ≡ Some e → Contains (x ∷ es) other → other.key ≤ key → other.key ≤ e.key
floor_greatest_step x es key e other (Some y) b is upto above ih here (zero, lt, same) le =
    let there = floor_among es key e (is ∙ here) in
    let up : x.key < e.key = contained_above es x.key e above there.0 in
    subst (λ (z : Entry). z.key ≤ e.key) same (omega (arith, up))
floor_greatest_step x es key e other (Some y) b is upto above ih here (suc k, lt, same) le = ih (is ∙ here) (k, omega arith, same)
floor_greatest_step x es key e other None true is upto above ih here (zero, lt, same) le =
    let one : x ≡ e = cc in
    subst (λ (z : Entry). z.key ≤ e.key) (sym one ∙ same) (omega arith)
floor_greatest_step x es key e other None true is upto above ih here (suc k, lt, same) le =
    let up = floor_none_above es key other is (k, omega arith, same) in
    absurd (omega (arith, up))
floor_greatest_step x es key e other None false is upto above ih here h le = absurd (cc)

pub floor_greatest : (es : List Entry) (key : ℕ) (e other : Entry) → IsRising es → floor es key ≡ Some e → Contains es other → other.key ≤ key → other.key ≤ e.key
floor_greatest [] key e other s is h le = absurd (cc)
floor_greatest (x ∷ es) key e other s is h le = floor_greatest_step x es key e other (floor es key) (leb x.key key) refl refl s.0 (λ i c. floor_greatest es key e other s.1 i c le) is h le

pub down_is : (page : List ℕ) (key child : ℕ) → IsRising (entries_of page) → look_of page key ≡ Down child → (e : Entry) × IsFloor (entries_of page) key e × (child ≡ e.place.page)
down_is page key child s is =
    let h = goes_down (is_beyond (high_of page) key) (is_branch page) (right_field page) child (floor (entries_of page) key) (find (entries_of page) key) is in
    let there = floor_among (entries_of page) key h.0 h.1 in
    (h.0, record { among = there.0; upto = there.1; greatest = λ other c le. floor_greatest (entries_of page) key h.0 other s h.1 c le }, h.2)

find_among_step : (x : Entry) (es : List Entry) (key : ℕ) (e : Entry) (b : Bool) → (x.key == key) ≡ b → (find es key ≡ Some e → Contains es e × (e.key ≡ key)) → (if b then Some x else find es key) ≡ Some e → Contains (x ∷ es) e × (e.key ≡ key)
find_among_step x es key e true here ih is =
    let same : x ≡ e = cc in
    ((zero, omega arith, same), sym (ap (λ (z : Entry). z.key) same) ∙ eqb-true x.key key here)
find_among_step x es key e false here ih is = let h = ih is in (contains_more x es e h.0, h.1)

pub find_among : (es : List Entry) (key : ℕ) (e : Entry) → find es key ≡ Some e → Contains es e × (e.key ≡ key)
find_among [] key e is = absurd (cc)
find_among (x ∷ es) key e is = find_among_step x es key e (x.key == key) refl (λ h. find_among es key e h) is

find_none_step : (x : Entry) (es : List Entry) (key : ℕ) (e : Entry) (b : Bool) → (x.key == key) ≡ b → (find es key ≡ None → Contains es e → ⊥) → (if b then Some x else find es key) ≡ None → Contains (x ∷ es) e → e.key ≡ key → ⊥
find_none_step x es key e true here ih is h same = absurd (cc)
find_none_step x es key e false here ih is (zero, lt, at) same = eqb-false x.key key here (ap (λ (z : Entry). z.key) at ∙ same)
find_none_step x es key e false here ih is (suc k, lt, at) same = ih is (k, omega arith, at)

pub find_none_else : (es : List Entry) (key : ℕ) (e : Entry) → find es key ≡ None → Contains es e → e.key ≡ key → ⊥
find_none_else [] key e none (k, lt, at) same = absurd (omega arith)
find_none_else (x ∷ es) key e none h same = find_none_step x es key e (x.key == key) refl (λ n c. find_none_else es key e n c same) none h same

pub found_is : (page : List ℕ) (key : ℕ) (place : Place) → look_of page key ≡ Found place → Contains (entries_of page) (record { key = key; place = place })
found_is page key place is =
    let h = finds (is_beyond (high_of page) key) (is_branch page) (right_field page) place (floor (entries_of page) key) (find (entries_of page) key) is in
    let there = find_among (entries_of page) key h.0 h.1 in
    let make : ℕ → Place → Entry = λ k p. record { key = k; place = p } in
    subst (λ (p : Place). Contains (entries_of page) (make key p)) (sym h.2) (subst (λ (k : ℕ). Contains (entries_of page) (make k h.0.place)) there.1 there.0)

pub absent_is : (page : List ℕ) (key : ℕ) (e : Entry) → look_of page key ≡ Absent → is_branch page ≡ false → Contains (entries_of page) e → e.key ≡ key → ⊥
absent_is page key e is leaf h same =
    find_none_else (entries_of page) key e (finds_none (is_beyond (high_of page) key) (is_branch page) (right_field page) (floor (entries_of page) key) (find (entries_of page) key) leaf is) h same

-- ---- what stands there is found

find_sole : (es : List Entry) (e : Entry) → IsRising es → Contains es e → find es e.key ≡ Some e
find_sole [] e s (k, lt, same) = absurd (omega arith)
find_sole (x ∷ es) e s (zero, lt, same) =
    let here = eq-eqb x.key e.key (ap (λ (z : Entry). z.key) same) in
    rw here (ap Some same)
find_sole (x ∷ es) e s (suc k, lt, same) =
    let up = contained_above es x.key e s.0 (k, omega arith, same) in
    let other : (x.key == e.key) ≡ false = ne_eqb x.key e.key (λ is. omega (arith, up, is)) in
    rw other (find_sole es e s.1 (k, omega arith, same))

pub finds_is : (page : List ℕ) (e : Entry) → IsRising (entries_of page) → is_branch page ≡ false → is_beyond (high_of page) e.key ≡ false → Contains (entries_of page) e → look_of page e.key ≡ Found e.place
finds_is page e s leaf inside c = let here = find_sole (entries_of page) e s c in rw (inside, leaf, here) refl

floor_sole : (es : List Entry) (key : ℕ) (e : Entry) (o : Option Entry) → floor es key ≡ o → IsRising es → IsFloor es key e → floor es key ≡ Some e
floor_sole es key e None is s h = let up = floor_none_above es key e is h.among in let le = h.upto in absurd (omega (arith, up, le))
floor_sole es key e (Some x) is s h =
    let there = floor_among es key x is in
    let down = floor_greatest es key x e s is h.among h.upto in
    let up = h.greatest x there.0 there.1 in
    let same : x.key ≡ e.key = omega (arith, down, up) in
    is ∙ sym (find_sole es x s there.0) ∙ ap (find es) same ∙ find_sole es e s h.among

pub leads_is : (page : List ℕ) (key : ℕ) (e : Entry) → IsRising (entries_of page) → is_branch page ≡ true → is_beyond (high_of page) key ≡ false → IsFloor (entries_of page) key e → look_of page key ≡ Down e.place.page
leads_is page key e s branch inside h = let here = floor_sole (entries_of page) key e (floor (entries_of page) key) refl s h in rw (inside, branch, here) refl

lost : (beyond branch : Bool) (right : ℕ) (below here : Option Entry) → branch ≡ true → by_parts beyond branch right below here ≡ Absent → below ≡ None
lost true branch right below here is absent = absurd (cc)
lost false false right below here is absent = absurd (cc)
lost false true right None here is absent = refl
lost false true right (Some e) here is absent = absurd (cc)

pub lost_is : (page : List ℕ) (key : ℕ) (e : Entry) → look_of page key ≡ Absent → is_branch page ≡ true → Contains (entries_of page) e → key < e.key
lost_is page key e is branch c =
    floor_none_above (entries_of page) key e (lost (is_beyond (high_of page) key) (is_branch page) (right_field page) (floor (entries_of page) key) (find (entries_of page) key) branch is) c
