-- Logs that are asked one after the other whether they ask for renewal.
use Rattle.std.proofs.Common.{◌≡◌, ℕ, zero, suc, ◌+◌, ◌<◌, ◌≤◌, Bool, true, false, List, ◌∷◌, length, drop, get_or, replicate, refl, ap, ◌∙◌, arith}
use Rattle.std.specs.Prelude.{◌&&◌, not}
use Rattle.std.proofs.lemmas.List.{drop_more, drop_all}
use Rattle.fitting_records.specs.Summed.{any_asks}

asks_at : (olds ends : List Bool) (n : ℕ) → n < length olds → n < length ends → any_asks (drop n olds) (drop n ends) ≡ any_asks (get_or olds n false ∷ drop (n + 1) olds) (get_or ends n false ∷ drop (n + 1) ends)
asks_at olds ends n lt le = ap (λ (l : List Bool). any_asks l (drop n ends)) (drop_more olds n false lt) ∙ ap (any_asks (get_or olds n false ∷ drop (n + 1) olds)) (drop_more ends n false le)

asks_none : (a b : Bool) (olds ends : List Bool) → (a && not b) ≡ false → any_asks (a ∷ olds) (b ∷ ends) ≡ any_asks olds ends
asks_none true true olds ends h = refl
asks_none true false olds ends h = absurd cc
asks_none false b olds ends h = refl

pub asks_more : (olds ends : List Bool) (n : ℕ) → n < length olds → length olds ≡ length ends → (get_or olds n false && not (get_or ends n false)) ≡ false → any_asks (drop n olds) (drop n ends) ≡ any_asks (drop (n + 1) olds) (drop (n + 1) ends)
asks_more olds ends n lt long h = asks_at olds ends n lt (omega (arith, lt, long)) ∙ asks_none (get_or olds n false) (get_or ends n false) (drop (n + 1) olds) (drop (n + 1) ends) h

asks_one : (a b : Bool) (olds ends : List Bool) → a ≡ true → b ≡ false → any_asks (a ∷ olds) (b ∷ ends) ≡ true
asks_one true false olds ends h k = refl
asks_one true true olds ends h k = absurd cc
asks_one false b olds ends h k = absurd cc

pub asks_here : (olds ends : List Bool) (n : ℕ) → n < length olds → length olds ≡ length ends → get_or olds n false ≡ true → get_or ends n false ≡ false → any_asks (drop n olds) (drop n ends) ≡ true
asks_here olds ends n lt long h k = asks_at olds ends n lt (omega (arith, lt, long)) ∙ asks_one (get_or olds n false) (get_or ends n false) (drop (n + 1) olds) (drop (n + 1) ends) h k

pub asks_end : (olds ends : List Bool) (n : ℕ) → length olds ≤ n → any_asks (drop n olds) (drop n ends) ≡ false
asks_end olds ends n le = ap (λ (l : List Bool). any_asks l (drop n ends)) (drop_all n olds le)

pub none_noted : (k n : ℕ) → get_or (replicate k false) n false ≡ false
none_noted zero n = refl
none_noted (suc k) zero = refl
none_noted (suc k) (suc n) = none_noted k n

pub count_32 : length (replicate 32 false) ≡ 32
count_32 = refl
