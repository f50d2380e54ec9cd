-- The bells of the members.
use Rattle.std.specs.Prelude.{ℕ, ◌-◌, ◌+◌, ◌<◌, ◌^◌, List, map, slice_index}

-- how often the member's bell has rung
abbrev pub bell_of : List ℕ → ℕ → ℕ
bell_of bells member = slice_index bells (member - 1)

-- every bell has rung once more
abbrev pub rung : List ℕ → List ℕ
rung bells = map (λ bell. bell + 1) bells

-- no count is at its end
abbrev pub CanRing : List ℕ → Type 0
CanRing bells = (member : ℕ) → bell_of bells member < 2 ^ 64 - 1
