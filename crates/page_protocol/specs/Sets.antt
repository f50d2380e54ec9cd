-- A sole user has a page set whole.
use Rattle.std.specs.Prelude.{◌≡◌, ℕ, true, List}
use Rattle.page_protocol.specs.Moves.{World, Move, Run}
use Rattle.page_protocol.specs.Always.{Good}

-- where one page of a set is its owner's by the set, so is each page of that set
abbrev pub SetsAgree : (ℕ → ℕ) → World → Type 0
SetsAgree set w = (n k : ℕ) → set n ≡ set k → (w.pages n).sole ≡ true → ((w.pages k).sole ≡ true) × ((w.pages k).owner ≡ (w.pages n).owner)

abbrev pub AlwaysAgree : Type 0
AlwaysAgree = (set : ℕ → ℕ) (moves : List Move) (w v : World) → Good w → SetsAgree set w → Run set w moves v → SetsAgree set v
