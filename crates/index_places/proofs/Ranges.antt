-- The slots that were given to the keys of a page are a part of all, in the order of their keys.
use Rattle.std.proofs.Common.{◌≡◌, ℕ, zero, suc, ◌≤◌, Bool, true, false, ◌&&◌, ◌-◌, List, [], ◌∷◌, length, take, drop, length-drop, get_or, Option, Some, refl, sym, ap, ◌∙◌, arith}
use Rattle.std.specs.Prelude.{nat_lt, ◌||◌, if◌then◌else◌}
use Rattle.std.specs.List.{list_all, AllWithin}
use Rattle.std.proofs.lemmas.Bool.Decides.{nat_tests}
use Rattle.std.proofs.lemmas.List.{take_all}
use Rattle.index_leaf.specs.declared.step.Look.{Look}
use Rattle.index_leaf.specs.declared.step.Look.TheVariants.{Right}
use Rattle.index_leaf.specs.Entries.{low_of, high_of, right_field, entries_of}
use Rattle.index_leaf.specs.Search.{is_branch, is_beyond, find, floor, down_to, found_at, look_of}
use Rattle.index_places.specs.declared.slots.Given.{Given}
use Rattle.index_places.specs.Placing.{lands_at, has_place}

-- ---- tests of a part

pass_front : (f : Given → Bool) (n : ℕ) (xs : List Given) → AllWithin (λ (g : Given). f g ≡ true) xs 0 n → n ≤ length xs → list_all f (drop n xs) ≡ list_all f xs
pass_front f zero xs h le = refl
pass_front f (suc n) [] h le = refl
pass_front f (suc n) (x ∷ xs) h le =
    pass_front f n xs (λ k d from lt. h (suc k) d (omega arith) (omega (arith, lt))) (omega (arith, le)) ∙ sym (ap (λ (b : Bool). b && list_all f xs) (h 0 x (omega arith) (omega arith)))

pass_back : (f : Given → Bool) (n : ℕ) (xs : List Given) → AllWithin (λ (g : Given). f g ≡ true) xs n (length xs) → list_all f (take n xs) ≡ list_all f xs
pass_back f zero [] h = refl
pass_back f zero (x ∷ xs) h =
    pass_back f zero xs (λ k d from lt. h (suc k) d (omega arith) (omega (arith, lt))) ∙ sym (ap (λ (b : Bool). b && list_all f xs) (h 0 x (omega arith) (omega arith)))
pass_back f (suc n) [] h = refl
pass_back f (suc n) (x ∷ xs) h = ap (λ (b : Bool). f x && b) (pass_back f n xs (λ k d from lt. h (suc k) d (omega (arith, from)) (omega (arith, lt))))

-- ---- slots outside of the page's keys

or_first : (a b : Bool) → a ≡ true → (a || b) ≡ true
or_first true b h = refl
or_first false b h = absurd cc

or_second : (a b : Bool) → b ≡ true → (a || b) ≡ true
or_second true b h = refl
or_second false b h = h

goes_on : (out branch : Bool) (right : ℕ) (down found : Look) (g : Given) → out ≡ true → lands_at (if out then Right right else if branch then down else found) g.place ≡ true
goes_on true branch right down found g h = refl
goes_on false branch right down found g h = absurd cc

below_has : (page : List ℕ) (low : ℕ) (g : Given) → low ≡ low_of page → nat_lt g.key low ≡ true → has_place page g ≡ true
below_has page low g is h = or_first (nat_lt g.key (low_of page)) (lands_at (look_of page g.key) g.place) (ap (nat_lt g.key) (sym is) ∙ h)

pub front_passes : (page : List ℕ) (low n : ℕ) (given : List Given) → low ≡ low_of page → AllWithin (λ (g : Given). nat_lt g.key low ≡ true) given 0 n → n ≤ length given
    → list_all (has_place page) (drop n given) ≡ list_all (has_place page) given
front_passes page low n given is h le = pass_front (has_place page) n given (λ k d from lt. below_has page low (get_or given k d) is (h k d from lt)) le

beyond_has : (page : List ℕ) (g : Given) → is_beyond (high_of page) g.key ≡ true → has_place page g ≡ true
beyond_has page g h =
    or_second (nat_lt g.key (low_of page)) (lands_at (look_of page g.key) g.place)
    (goes_on (is_beyond (high_of page) g.key) (is_branch page) (right_field page) (down_to (floor (entries_of page) g.key)) (found_at (find (entries_of page) g.key)) g h)

-- all behind the first so many
pub rest_is : (n : ℕ) (given : List Given) → take (length given - n) (drop n given) ≡ drop n given
rest_is n given = let len = length-drop n given in take_all (length given - n) (drop n given) (omega (arith, len))

pub back_passes : (page : List ℕ) (n : ℕ) (given : List Given) → AllWithin (λ (g : Given). is_beyond (high_of page) g.key ≡ true) given n (length given) → list_all (has_place page) (take n given) ≡ list_all (has_place page) given
back_passes page n given h = pass_back (has_place page) n given (λ k d from lt. beyond_has page (get_or given k d) (h k d from lt))

not_below : (key high : ℕ) → nat_lt key high ≡ false → is_beyond (Some high) key ≡ true
not_below key high h = grind (arith, nat_tests)

pub beyond_high : (o : Option ℕ) (high n end : ℕ) (given : List Given) → o ≡ Some high → AllWithin (λ (g : Given). nat_lt g.key high ≡ false) given n end → AllWithin (λ (g : Given). is_beyond o g.key ≡ true) given n end
beyond_high o high n end given is h k d from lt =
    let key : ℕ = (get_or given k d).key in
    ap (λ (x : Option ℕ). is_beyond x key) is ∙ not_below key high (h k d from lt)
