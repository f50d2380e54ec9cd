-- Lists of the pages that are written.
use Rattle.std.proofs.Common.{◌≡◌, ℕ, zero, suc, ◌+◌, ◌-◌, ◌≤◌, Bool, true, false, cond, List, [], ◌∷◌, ◌++◌, take, drop, refl, sym, ap, ◌∙◌, arith, add-one}
use Rattle.std.specs.Prelude.{◌||◌, filter, map}
use Rattle.std.proofs.lemmas.Bool.Decides.{nat_tests}
use Rattle.std.proofs.lemmas.List.{take-append-drop}
use Rattle.ds_base.specs.Pages.{same_page}
use Rattle.ds_base.specs.declared.names.PageId.{PageId}
use Rattle.page_redo.specs.Pages.{has_page}
use Rattle.page_records.specs.declared.places.PageRecords.{PageRecords}
use Rattle.table_image_text.specs.Image.{page_name}
use Rattle.copy_recover.specs.Recovered.{is_more, more_names, names_in}

pub decide : (b : Bool) (P : Type 0) → (b ≡ true → P) → (b ≡ false → P) → P
decide true P f g = f refl
decide false P f g = g refl

or_assoc : (a b c : Bool) → (a || (b || c)) ≡ ((a || b) || c)
or_assoc true b c = refl
or_assoc false b c = refl

or_false : (a : Bool) → (a || false) ≡ a
or_false true = refl
or_false false = refl

pub either : (a b : Bool) (P : Type 0) → (a || b) ≡ true → (a ≡ true → P) → (b ≡ true → P) → P
either true b P h f g = f refl
either false b P h f g = g h

pub first_of_both : (a b : Bool) → a ≡ true → (a || b) ≡ true
first_of_both true b h = refl
first_of_both false b h = absurd cc

pub second_of_both : (a b : Bool) → b ≡ true → (a || b) ≡ true
second_of_both true b h = refl
second_of_both false b h = h

pub same_name : (a b : PageId) → same_page a b ≡ true → a ≡ b
same_name a b h =
    let p : a.set ≡ b.set = grind arith in
    let q : a.number ≡ b.number = grind arith in
    λ i. record { set = p i; number = q i }

-- ---- two lists

pub has_both : (xs ys : List PageId) (id : PageId) → has_page (xs ++ ys) id ≡ (has_page xs id || has_page ys id)
has_both [] ys id = refl
has_both (x ∷ xs) ys id = ap (λ (b : Bool). same_page x id || b) (has_both xs ys id) ∙ or_assoc (same_page x id) (has_page xs id) (has_page ys id)

pub has_first : (xs ys : List PageId) (id : PageId) → has_page xs id ≡ true → has_page (xs ++ ys) id ≡ true
has_first xs ys id h = has_both xs ys id ∙ first_of_both (has_page xs id) (has_page ys id) h

pub has_one : (x id : PageId) → has_page (x ∷ []) id ≡ same_page x id
has_one x id = or_false (same_page x id)

same_self : (id : PageId) → same_page id id ≡ true
same_self id = grind (arith, nat_tests)

pub has_itself : (id : PageId) → has_page (id ∷ []) id ≡ true
has_itself id = has_one id id ∙ same_self id

pub is_itself : (x id : PageId) → has_page (x ∷ []) id ≡ true → id ≡ x
is_itself x id h = sym (same_name x id (sym (has_one x id) ∙ h))

-- ---- the pages of an image

pub one_name : (table heap n : ℕ) → names_in table heap (n + 1) ≡ names_in table heap n ++ page_name table heap n ∷ []
one_name table heap n = ap (λ (m : ℕ). names_in table heap m) (add-one n)

names_up_to : (table heap n more : ℕ) (id : PageId) → has_page (names_in table heap n) id ≡ true → has_page (names_in table heap (n + more)) id ≡ true
names_up_to table heap n zero id h = let e : n + zero ≡ n = omega arith in ap (λ (m : ℕ). has_page (names_in table heap m) id) e ∙ h
names_up_to table heap n (suc more) id h =
    let e : n + suc more ≡ n + more + 1 = omega arith in
    ap (λ (m : ℕ). has_page (names_in table heap m) id) e ∙ ap (λ (l : List PageId). has_page l id) (one_name table heap (n + more))
    ∙ has_first (names_in table heap (n + more)) (page_name table heap (n + more) ∷ []) id (names_up_to table heap n more id h)

pub names_below : (table heap n count : ℕ) (id : PageId) → n ≤ count → has_page (names_in table heap n) id ≡ true → has_page (names_in table heap count) id ≡ true
names_below table heap n count id le h =
    let e : n + (count - n) ≡ count = omega arith in
    sym (ap (λ (m : ℕ). has_page (names_in table heap m) id) e) ∙ names_up_to table heap n (count - n) id h

-- ---- the pages that only records name

filter_both : (p : PageId → Bool) (xs ys : List PageId) → filter p (xs ++ ys) ≡ filter p xs ++ filter p ys
filter_both p [] ys = refl
filter_both p (x ∷ xs) ys =
    decide (p x) _
    (λ e. ap (λ (b : Bool). cond b (x ∷ filter p (xs ++ ys)) (filter p (xs ++ ys))) e ∙ ap (λ (l : List PageId). x ∷ l) (filter_both p xs ys)
    ∙ sym (ap (λ (b : Bool). cond b (x ∷ filter p xs) (filter p xs) ++ filter p ys) e))
    (λ e. ap (λ (b : Bool). cond b (x ∷ filter p (xs ++ ys)) (filter p (xs ++ ys))) e ∙ filter_both p xs ys
    ∙ sym (ap (λ (b : Bool). cond b (x ∷ filter p xs) (filter p xs) ++ filter p ys) e))

map_both : (xs ys : List PageRecords) → map (λ (p : PageRecords). p.page) (xs ++ ys) ≡ map (λ (p : PageRecords). p.page) xs ++ map (λ (p : PageRecords). p.page) ys
map_both [] ys = refl
map_both (x ∷ xs) ys = ap (λ (l : List PageId). x.page ∷ l) (map_both xs ys)

more_both : (image : List ℕ) (table : ℕ) (xs ys : List PageRecords) → more_names image table (xs ++ ys) ≡ more_names image table xs ++ more_names image table ys
more_both image table xs ys = ap (λ (l : List PageId). filter (is_more image table) l) (map_both xs ys) ∙ filter_both (is_more image table) (map (λ (p : PageRecords). p.page) xs) (map (λ (p : PageRecords). p.page) ys)

-- one that is written
pub more_with : (image : List ℕ) (table : ℕ) (xs : List PageRecords) (own : PageRecords) → is_more image table own.page ≡ true
    → more_names image table (xs ++ own ∷ []) ≡ more_names image table xs ++ own.page ∷ []
more_with image table xs own h =
    more_both image table xs (own ∷ []) ∙ ap (λ (b : Bool). more_names image table xs ++ cond b (own.page ∷ []) []) h

append_none : (xs : List PageId) → xs ++ [] ≡ xs
append_none [] = refl
append_none (x ∷ xs) = ap (λ (l : List PageId). x ∷ l) (append_none xs)

-- one that isn't
pub more_without : (image : List ℕ) (table : ℕ) (xs : List PageRecords) (own : PageRecords) → is_more image table own.page ≡ false
    → more_names image table (xs ++ own ∷ []) ≡ more_names image table xs
more_without image table xs own h =
    more_both image table xs (own ∷ []) ∙ ap (λ (b : Bool). more_names image table xs ++ cond b (own.page ∷ []) []) h ∙ append_none (more_names image table xs)

-- those of a front are among all
pub more_in_front : (image : List ℕ) (table : ℕ) (xs : List PageRecords) (n : ℕ) (id : PageId) → has_page (more_names image table (take n xs)) id ≡ true → has_page (more_names image table xs) id ≡ true
more_in_front image table xs n id h =
    sym (ap (λ (l : List PageRecords). has_page (more_names image table l) id) (take-append-drop n xs))
    ∙ ap (λ (l : List PageId). has_page l id) (more_both image table (take n xs) (drop n xs))
    ∙ has_first (more_names image table (take n xs)) (more_names image table (drop n xs)) id h
