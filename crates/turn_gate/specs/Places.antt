-- What a seat at the table shows.
use Rattle.std.specs.Prelude.{◌≡◌, ℕ, [], ◌∷◌, Option}
use Rattle.atomic_table.specs.Seated.{TableId}
use Rattle.atomic_table.specs.declared.shared.Seat.{Seat}
use Rattle.turn_gate.specs.declared.kept.Kept.{Kept}
use Rattle.turn_gate.specs.declared.view.View.{View}
use Rattle.turn_gate.specs.Ruled.{sits, waits, holder}

abbrev pub Place : Type 0 → Type 0 → Type 0 → Type 0
Place T B E = Seat (Option (Kept T)) (View B E)

module _ {T B E : Type 0} where
  -- the seat is between two turns
  abbrev pub IsIdle : Place T B E → Type 0
  IsIdle s = s.me ≡ (sits s.me.0.seats, [])

  -- the seat has the ticket k
  abbrev pub Waits : Place T B E → ℕ → Type 0
  Waits s k = s.me ≡ (waits k s.me.0.seats, [])

  -- the seat's ticket is served, and it has the slot, with y in it
  abbrev pub Has : Place T B E → Option (Kept T) → Type 0
  Has s y = s.me ≡ (holder s.me.0.ticket s.me.0.seats, (0, y) ∷ [])

  abbrev pub IsSame : Place T B E → Place T B E → Type 0
  IsSame s t = (t.table_id ≡ s.table_id) × (t.id ≡ s.id)

-- three words and one slot
abbrev pub IsGate : TableId → Type 0
IsGate z = (z.words ≡ 3) × (z.slots ≡ 1)
