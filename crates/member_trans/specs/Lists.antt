-- Slots in an order.
use Rattle.std.specs.Prelude.{ℕ, List, [], ◌∷◌, ◌++◌, length, nat_lt, if◌then◌else◌}

-- the slot stands behind the others, of which there are 15 at most
abbrev pub pushed : List ℕ → ℕ → List ℕ
pushed slots slot = if nat_lt (length slots) 16 then slots ++ slot ∷ [] else slots
