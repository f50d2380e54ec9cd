-- What is found among the first and among the last of some entries whose keys rise.
use Rattle.std.proofs.Common.{◌≡◌, ℕ, zero, suc, ◌<◌, ◌≤◌, refl, sym, ap, ◌∙◌, subst, arith, Bool, true, false, List, [], ◌∷◌, ◌++◌, take, drop, Option, Some, None, if◌then◌else◌}
use Rattle.std.proofs.lemmas.Bool.{ne_eqb, le-leb}
use Rattle.std.proofs.lemmas.List.{take-append-drop}
use Rattle.std.specs.Prelude.{leb, ◌==◌, Contains}
use Rattle.index_leaf.specs.declared.layout.Entry.{Entry}
use Rattle.index_leaf.specs.Entries.{AllAbove, IsRising}
use Rattle.index_leaf.specs.Search.{or_else, floor, find}
use Rattle.index_leaf.proofs.Places.{above_more, floor_above, find_above}
use Rattle.index_leaf.proofs.Steps.{contains_more, contained_above}

-- ---- the last are all above the key

find_front_step : (x : Entry) (xs zs : List Entry) (key : ℕ) (b : Bool) → (x.key == key) ≡ b → find (xs ++ zs) key ≡ find xs key → find (x ∷ xs ++ zs) key ≡ find (x ∷ xs) key
find_front_step x xs zs key true here ih = rw here refl
find_front_step x xs zs key false here ih = rw (here, ih) refl

find_front : (xs zs : List Entry) (key : ℕ) → AllAbove key zs → find (xs ++ zs) key ≡ find xs key
find_front [] zs key above = find_above zs key key above (omega arith)
find_front (x ∷ xs) zs key above = find_front_step x xs zs key (x.key == key) refl (find_front xs zs key above)

floor_front : (xs zs : List Entry) (key : ℕ) → AllAbove key zs → floor (xs ++ zs) key ≡ floor xs key
floor_front [] zs key above = floor_above zs key key above (omega arith)
floor_front (x ∷ xs) zs key above = ap (λ (o : Option Entry). or_else o (if leb x.key key then Some x else None)) (floor_front xs zs key above)

-- ---- the first are all below the key

above_mid : (xs : List Entry) (y : Entry) (ys : List Entry) (b : ℕ) → AllAbove b (xs ++ y ∷ ys) → b < y.key
above_mid [] y ys b above = above.0
above_mid (x ∷ xs) y ys b above = above_mid xs y ys b above.1

find_back_step : (x : Entry) (xs : List Entry) (y : Entry) (ys : List Entry) (key : ℕ) → (x.key == key) ≡ false → find (xs ++ y ∷ ys) key ≡ find (y ∷ ys) key → find (x ∷ xs ++ y ∷ ys) key ≡ find (y ∷ ys) key
find_back_step x xs y ys key other ih = rw other ih

find_back : (xs : List Entry) (y : Entry) (ys : List Entry) (key : ℕ) → IsRising (xs ++ y ∷ ys) → y.key ≤ key → find (xs ++ y ∷ ys) key ≡ find (y ∷ ys) key
find_back [] y ys key s le = refl
find_back (x ∷ xs) y ys key s le =
    let below = above_mid xs y ys x.key s.0 in
    let other : (x.key == key) ≡ false = ne_eqb x.key key (λ is. omega (arith, below, is)) in
    find_back_step x xs y ys key other (find_back xs y ys key s.1 le)

floor_has : (y : Entry) (o other : Option Entry) → or_else (or_else o (Some y)) other ≡ or_else o (Some y)
floor_has y (Some z) other = refl
floor_has y None other = refl

floor_back : (xs : List Entry) (y : Entry) (ys : List Entry) (key : ℕ) → IsRising (xs ++ y ∷ ys) → y.key ≤ key → floor (xs ++ y ∷ ys) key ≡ floor (y ∷ ys) key
floor_back [] y ys key s le = refl
floor_back (x ∷ xs) y ys key s le =
    let ih = floor_back xs y ys key s.1 le in
    let upto = le-leb y.key key le in
    ap (λ (o : Option Entry). or_else o (if leb x.key key then Some x else None)) ih
    ∙ rw upto (floor_has y (floor ys key) (if leb x.key key then Some x else None))

-- ---- the keys of both parts

above_front : (xs zs : List Entry) (b : ℕ) → AllAbove b (xs ++ zs) → AllAbove b xs
above_front [] zs b above = tt
above_front (x ∷ xs) zs b above = (above.0, above_front xs zs b above.1)

rising_front : (xs zs : List Entry) → IsRising (xs ++ zs) → IsRising xs
rising_front [] zs s = tt
rising_front (x ∷ xs) zs s = (above_front xs zs x.key s.0, rising_front xs zs s.1)

rising_back : (xs zs : List Entry) → IsRising (xs ++ zs) → IsRising zs
rising_back [] zs s = s
rising_back (x ∷ xs) zs s = rising_back xs zs s.1

contains_front : (xs zs : List Entry) (e : Entry) → Contains xs e → Contains (xs ++ zs) e
contains_front [] zs e (k, lt, same) = absurd (omega arith)
contains_front (x ∷ xs) zs e (zero, lt, same) = (zero, omega arith, same)
contains_front (x ∷ xs) zs e (suc k, lt, same) = contains_more x (xs ++ zs) e (contains_front xs zs e (k, omega arith, same))

contains_back : (xs zs : List Entry) (e : Entry) → Contains zs e → Contains (xs ++ zs) e
contains_back [] zs e c = c
contains_back (x ∷ xs) zs e c = contains_more x (xs ++ zs) e (contains_back xs zs e c)

from_first : (y : Entry) (ys : List Entry) (e : Entry) → IsRising (y ∷ ys) → Contains (y ∷ ys) e → y.key ≤ e.key
from_first y ys e s (zero, lt, same) = subst (λ (z : Entry). y.key ≤ z.key) same (omega arith)
from_first y ys e s (suc k, lt, same) = let up = contained_above ys y.key e s.0 (k, omega arith, same) in omega (arith, up)

below_mid : (xs : List Entry) (y : Entry) (ys : List Entry) (e : Entry) → IsRising (xs ++ y ∷ ys) → Contains xs e → e.key < y.key
below_mid [] y ys e s (k, lt, same) = absurd (omega arith)
below_mid (x ∷ xs) y ys e s (zero, lt, same) = subst (λ (z : Entry). z.key < y.key) same (above_mid xs y ys x.key s.0)
below_mid (x ∷ xs) y ys e s (suc k, lt, same) = below_mid xs y ys e s.1 (k, omega arith, same)

-- ---- the same over a list that is divided before an entry

whole : (es : List Entry) (h : ℕ) (y : Entry) (ys : List Entry) → drop h es ≡ y ∷ ys → take h es ++ y ∷ ys ≡ es
whole es h y ys d = ap (λ (zs : List Entry). take h es ++ zs) (sym d) ∙ take-append-drop h es

whole_rising : (es : List Entry) (h : ℕ) (y : Entry) (ys : List Entry) → drop h es ≡ y ∷ ys → IsRising es → IsRising (take h es ++ y ∷ ys)
whole_rising es h y ys d s = subst IsRising (sym (whole es h y ys d)) s

behind_above : (es : List Entry) (h : ℕ) (y : Entry) (ys : List Entry) (key : ℕ) → drop h es ≡ y ∷ ys → IsRising es → key < y.key → AllAbove key (y ∷ ys)
behind_above es h y ys key d s lt =
    let back = rising_back (take h es) (y ∷ ys) (whole_rising es h y ys d s) in
    (lt, above_more ys key y.key lt back.0)

pub find_first : (es : List Entry) (h : ℕ) (y : Entry) (ys : List Entry) (key : ℕ) → drop h es ≡ y ∷ ys → IsRising es → key < y.key → find (take h es) key ≡ find es key
find_first es h y ys key d s lt =
    sym (find_front (take h es) (y ∷ ys) key (behind_above es h y ys key d s lt)) ∙ ap (λ (zs : List Entry). find zs key) (whole es h y ys d)

pub floor_first : (es : List Entry) (h : ℕ) (y : Entry) (ys : List Entry) (key : ℕ) → drop h es ≡ y ∷ ys → IsRising es → key < y.key → floor (take h es) key ≡ floor es key
floor_first es h y ys key d s lt =
    sym (floor_front (take h es) (y ∷ ys) key (behind_above es h y ys key d s lt)) ∙ ap (λ (zs : List Entry). floor zs key) (whole es h y ys d)

pub find_last : (es : List Entry) (h : ℕ) (y : Entry) (ys : List Entry) (key : ℕ) → drop h es ≡ y ∷ ys → IsRising es → y.key ≤ key → find (drop h es) key ≡ find es key
find_last es h y ys key d s le =
    ap (λ (zs : List Entry). find zs key) d
    ∙ sym (find_back (take h es) y ys key (whole_rising es h y ys d s) le)
    ∙ ap (λ (zs : List Entry). find zs key) (whole es h y ys d)

pub floor_last : (es : List Entry) (h : ℕ) (y : Entry) (ys : List Entry) (key : ℕ) → drop h es ≡ y ∷ ys → IsRising es → y.key ≤ key → floor (drop h es) key ≡ floor es key
floor_last es h y ys key d s le =
    ap (λ (zs : List Entry). floor zs key) d
    ∙ sym (floor_back (take h es) y ys key (whole_rising es h y ys d s) le)
    ∙ ap (λ (zs : List Entry). floor zs key) (whole es h y ys d)

pub rising_first : (es : List Entry) (h : ℕ) → IsRising es → IsRising (take h es)
rising_first es h s = rising_front (take h es) (drop h es) (subst IsRising (sym (take-append-drop h es)) s)

pub rising_last : (es : List Entry) (h : ℕ) → IsRising es → IsRising (drop h es)
rising_last es h s = rising_back (take h es) (drop h es) (subst IsRising (sym (take-append-drop h es)) s)

pub contains_first : (es : List Entry) (h : ℕ) (e : Entry) → Contains (take h es) e → Contains es e
contains_first es h e c = subst (λ (zs : List Entry). Contains zs e) (take-append-drop h es) (contains_front (take h es) (drop h es) e c)

pub contains_last : (es : List Entry) (h : ℕ) (e : Entry) → Contains (drop h es) e → Contains es e
contains_last es h e c = subst (λ (zs : List Entry). Contains zs e) (take-append-drop h es) (contains_back (take h es) (drop h es) e c)

pub first_below : (es : List Entry) (h : ℕ) (y : Entry) (ys : List Entry) (e : Entry) → drop h es ≡ y ∷ ys → IsRising es → Contains (take h es) e → e.key < y.key
first_below es h y ys e d s c = below_mid (take h es) y ys e (whole_rising es h y ys d s) c

pub last_from : (es : List Entry) (h : ℕ) (y : Entry) (ys : List Entry) (e : Entry) → drop h es ≡ y ∷ ys → IsRising es → Contains (drop h es) e → y.key ≤ e.key
last_from es h y ys e d s c = from_first y ys e (rising_back (take h es) (y ∷ ys) (whole_rising es h y ys d s)) (subst (λ (zs : List Entry). Contains zs e) d c)

pub contains_mid : (es : List Entry) (h : ℕ) (y : Entry) (ys : List Entry) → drop h es ≡ y ∷ ys → Contains es y
contains_mid es h y ys d = contains_last es h y (subst (λ (zs : List Entry). Contains zs y) (sym d) (zero, omega arith, refl))
