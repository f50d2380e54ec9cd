-- Lists, and two lists side by side, with one place more.
use Rattle.std.proofs.Common.{◌≡◌, ℕ, ◌+◌, ◌<◌, ◌≤◌, List, [], ◌∷◌, ◌++◌, map, length, get_or, take, sym, ap, ap₂, ◌∙◌, arith}
use Rattle.std.specs.List.{zip, flat_map}
use Rattle.std.proofs.lemmas.List.{take_more, take_all, map_push, append-nil, get_or_default}
use Rattle.std.proofs.lemmas.Grind.{flat_map-append}
use Rattle.std.proofs.lemmas.Slice.Zip.{length-zip, get_or-zip}

pub read_again : {A : Type 0} (xs : List A) (i : ℕ) (d : A) → i < length xs → get_or xs i d ≡ get_or xs i (get_or xs i d)
read_again xs i d low = get_or_default xs i d (get_or xs i d) low

pub listed_more : {A B : Type 0} (f : A → B) (xs : List A) (i : ℕ) (x : A) → i < length xs → x ≡ get_or xs i x → map f (take i xs) ++ f x ∷ [] ≡ map f (take (i + 1) xs)
listed_more {A} f xs i x low read =
    sym (ap (map f) (take_more xs i x low) ∙ map_push f (take i xs) (get_or xs i x) ∙ ap (λ (y : A). map f (take i xs) ++ f y ∷ []) (sym read))

zip_more : {A B : Type 0} (xs : List A) (ys : List B) (i : ℕ) (a : A) (b : B) → i < length xs → length ys ≡ length xs → a ≡ get_or xs i a → b ≡ get_or ys i b → take (i + 1) (zip xs ys) ≡ take i (zip xs ys) ++ (a, b) ∷ []
zip_more {A} {B} xs ys i a b low same one other =
    let high : i < length ys = omega arith in
    let within : i < length (zip xs ys) = omega (arith, length-zip xs ys) in
    take_more (zip xs ys) i (a, b) within
    ∙ ap (λ (p : A × B). take i (zip xs ys) ++ p ∷ []) (get_or-zip xs ys i (a, b) low high ∙ ap₂ (λ (x : A) (y : B). (x, y)) (sym one) (sym other))

pub mapped_more : {A B C : Type 0} (f : A × B → C) (xs : List A) (ys : List B) (i : ℕ) (a : A) (b : B) → i < length xs → length ys ≡ length xs → a ≡ get_or xs i a → b ≡ get_or ys i b → map f (take i (zip xs ys)) ++ f (a, b) ∷ [] ≡ map f (take (i + 1) (zip xs ys))
mapped_more f xs ys i a b low same one other = sym (ap (map f) (zip_more xs ys i a b low same one other) ∙ map_push f (take i (zip xs ys)) (a, b))

pub joined_more : {A B C : Type 0} (f : A × B → List C) (xs : List A) (ys : List B) (i : ℕ) (a : A) (b : B) → i < length xs → length ys ≡ length xs → a ≡ get_or xs i a → b ≡ get_or ys i b → flat_map f (take i (zip xs ys)) ++ f (a, b) ≡ flat_map f (take (i + 1) (zip xs ys))
joined_more f xs ys i a b low same one other =
    sym (ap (flat_map f) (zip_more xs ys i a b low same one other) ∙ flat_map-append f (take i (zip xs ys)) ((a, b) ∷ []) ∙ ap (λ l. flat_map f (take i (zip xs ys)) ++ l) (append-nil (f (a, b))))

pub zip_whole : {A B : Type 0} (xs : List A) (ys : List B) (n : ℕ) → length ys ≡ length xs → length xs ≤ n → take n (zip xs ys) ≡ zip xs ys
zip_whole xs ys n same high = take_all n (zip xs ys) (omega (arith, length-zip xs ys))
