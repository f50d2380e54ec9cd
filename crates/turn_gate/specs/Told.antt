-- What the rule knows of the slot's value.
use Rattle.std.specs.Prelude.{◌≡◌, ℕ, List, map, Option, Some, None, Bool, false}
use Rattle.turn_gate.specs.declared.kept.Kept.{Kept}

-- the machine began so and has had these events, and the journal has their numbers
abbrev pub Good : {T B E : Type 0} → (E → ℕ) → (T → B) → (T → List E) → (T → Type 0) → Option (Kept T) → B → List E → Type 0
Good event_of start story sound None begin log = ⊥
Good event_of start story sound (Some k) begin log = (start k.machine ≡ begin) × (story k.machine ≡ log) × (k.journal.items ≡ map event_of log) × (k.ended ≡ false → sound k.machine)

-- a turn was refused for want of memory
abbrev pub ended_of : {T : Type 0} → Option (Kept T) → Bool
ended_of None = false
ended_of (Some k) = k.ended
