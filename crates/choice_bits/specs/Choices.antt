-- Which choices of a member are ready.
use Rattle.std.specs.Prelude.{ℕ, zero, suc, ◌+◌, ◌/◌, ◌%◌, ◌^◌, ◌==◌, ◌&&◌, Bool, nat_lt, List, [], ◌∷◌, ◌++◌, if◌then◌else◌}

-- the bit of a choice of a member, 0 to 22
abbrev pub has_choice : ℕ → ℕ → Bool
has_choice ready choice = nat_lt choice 23 && ((ready / 2 ^ choice) % 2 == 1)

-- of so many choices from this one on those whose bits are set, in their order
unfoldable pub choices_from : ℕ → ℕ → ℕ → List ℕ
choices_from zero choice ready = []
choices_from (suc left) choice ready = (if has_choice ready choice then choice ∷ [] else []) ++ choices_from left (choice + 1) ready

-- the choices of a member that are ready
unfoldable pub choices_of : ℕ → List ℕ
choices_of ready = choices_from 23 0 ready
