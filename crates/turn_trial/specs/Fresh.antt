-- A seat that has taken no turn.
use Rattle.std.specs.Prelude.{◌≡◌, ℕ, []}
use Rattle.turn_gate.specs.Seated.{TurnId, Sat}

-- the seat of this caller in the turn z, before any event
abbrev pub IsFresh : TurnId → ℕ → Sat ℕ ℕ → Type 0
IsFresh z caller s = (s.turn ≡ z) × (s.knows.caller ≡ caller) × (s.knows.seen ≡ []) × (s.knows.own ≡ [])
