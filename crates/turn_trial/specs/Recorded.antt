-- A machine that keeps its event numbers alone.
use Rattle.std.specs.Prelude.{◌≡◌, ℕ, ◌+◌, ◌*◌, ◌%◌, ◌^◌, List, [], ◌∷◌, ◌++◌, Bool, true, false, length, zero, suc}
use Rattle.turn_gate.specs.declared.answer.Look.{Look}
use Rattle.turn_gate.specs.declared.answer.Look.TheVariants as looked
use Rattle.turn_gate.specs.Lists.{events_by}

-- an event number is its caller's and a multiple of 64
abbrev pub caller_of : ℕ → ℕ
caller_of e = e % 64

-- the part counts its caller's events
abbrev pub Counts : ℕ → ℕ → List ℕ → Type 0
Counts by part log = part ≡ length (events_by caller_of by log) % 2 ^ 64

-- a look finds the count of all events, where that is not below `from`
abbrev pub look_at : Bool → ℕ → Look
look_at true count = looked.Ready count
look_at false count = looked.NotYet

-- the first n events of a caller
abbrev pub firsts : ℕ → ℕ → List ℕ
firsts by zero = []
firsts by (suc n) = firsts by n ++ (by + 64 * n) ∷ []
