-- Values in a row, each worked on.
use Rattle.std.specs.Prelude.{List, [], ◌∷◌}

-- this holds of each
abbrev pub AllOf : {T : Type 0} → (T → Type 0) → List T → Type 0
AllOf {T} Holds [] = Unit {0}
AllOf {T} Holds (x ∷ xs) = Holds x × AllOf Holds xs

-- each value of the second row is what work may have left of the one at that place of the first
abbrev pub LeavesEach : {T : Type 0} → (T → T → Type 0) → List T → List T → Type 0
LeavesEach {T} leaves [] [] = Unit {0}
LeavesEach {T} leaves [] (y ∷ ys) = ⊥
LeavesEach {T} leaves (x ∷ xs) [] = ⊥
LeavesEach {T} leaves (x ∷ xs) (y ∷ ys) = leaves x y × LeavesEach leaves xs ys
