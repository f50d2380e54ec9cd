-- The rows of one lane among those of all.
use Rattle.std.proofs.Common.{◌≡◌, ℕ, ◌<◌, ◌≤◌, List, [], map, length, get_or, set, refl, sym, ap, ◌∙◌, subst, Vec, Global}
use Rattle.std.proofs.lemmas.List.{map-set, get_or-map, set_past, get_or_past, length-map}
use Rattle.run_picture.specs.Rooms.{row_for, with_bar}

abbrev pub all_ends : List (Vec ℕ Global) → List (List ℕ)
all_ends rows = map (λ (r : Vec ℕ Global). r.items) rows

there : (rows : List (Vec ℕ Global)) (n m : ℕ) (e : Vec ℕ Global) → n ≡ m → n < length rows → e ≡ get_or rows n e → get_or (all_ends rows) m [] ≡ e.items
there rows n m e same low read =
    ap (λ k. get_or (all_ends rows) k []) (sym same)
    ∙ get_or-map (λ (x : Vec ℕ Global). x.items) rows n e [] low
    ∙ ap (λ (x : Vec ℕ Global). x.items) (sym read)

above : (rows : List (Vec ℕ Global)) (n m : ℕ) → n ≡ m → length rows ≤ n → length (all_ends rows) ≤ m
above rows n m same high = subst (λ k. length (all_ends rows) ≤ k) same (subst (λ l. l ≤ n) (sym (length-map rows (λ (x : Vec ℕ Global). x.items))) high)

pub row_given : (rows : List (Vec ℕ Global)) (n m from : ℕ) (e : Vec ℕ Global) (r : ℕ) → n ≡ m → n < length rows → e ≡ get_or rows n e → r ≡ row_for from e.items → r ≡ row_for from (get_or (all_ends rows) m [])
row_given rows n m from e r same low read is = is ∙ ap (row_for from) (sym (there rows n m e same low read))

pub ends_given : (rows : List (Vec ℕ Global)) (n m from to : ℕ) (e x : Vec ℕ Global) → n ≡ m → n < length rows → e ≡ get_or rows n e → x.items ≡ with_bar from to e.items → all_ends (set rows n x) ≡ set (all_ends rows) m (with_bar from to (get_or (all_ends rows) m []))
ends_given rows n m from to e x same low read is =
    map-set (λ (y : Vec ℕ Global). y.items) rows n x
    ∙ ap (set (all_ends rows) n) (is ∙ ap (with_bar from to) (sym (there rows n m e same low read)))
    ∙ ap (λ k. set (all_ends rows) k (with_bar from to (get_or (all_ends rows) m []))) same

row_of_none : (from : ℕ) → row_for from [] ≡ 0
unfolding row_for
row_of_none from = refl

pub no_row : (rows : List (Vec ℕ Global)) (n m from : ℕ) → n ≡ m → length rows ≤ n → 0 ≡ row_for from (get_or (all_ends rows) m [])
no_row rows n m from same high = sym (ap (row_for from) (get_or_past (all_ends rows) m [] (above rows n m same high)) ∙ row_of_none from)

pub no_ends : (rows : List (Vec ℕ Global)) (n m from to : ℕ) → n ≡ m → length rows ≤ n → all_ends rows ≡ set (all_ends rows) m (with_bar from to (get_or (all_ends rows) m []))
no_ends rows n m from to same high = sym (set_past (all_ends rows) m (with_bar from to (get_or (all_ends rows) m [])) (above rows n m same high))
