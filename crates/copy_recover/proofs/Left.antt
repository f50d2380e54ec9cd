-- The bytes that were left of a source.
use Rattle.std.proofs.Common.{◌≡◌, ℕ, List, [], ◌∷◌, ◌++◌, Option, Some, None, refl, ap, ◌∙◌}
use Rattle.std.specs.Io.KnownBytes.{Consumes, IsAtEnd}
use Rattle.copy_recover.specs.Reading.{WereLeft}

append_none : (xs : List ℕ) → xs ++ [] ≡ xs
append_none [] = refl
append_none (x ∷ xs) = ap (λ (ys : List ℕ). x ∷ ys) (append_none xs)

pub were_left : (left now : Option (List ℕ)) (bytes : List ℕ) → Consumes left now bytes → IsAtEnd now → WereLeft left bytes
were_left None now bytes h k = tt
were_left (Some xs) None bytes h k = absurd h
were_left (Some xs) (Some ys) bytes h k = h ∙ ap (λ (l : List ℕ). bytes ++ l) k ∙ append_none bytes
