-- Which events are ready.
use Rattle.std.specs.Prelude.{ℕ, zero, suc, ◌/◌, ◌%◌, ◌==◌, ◌&&◌, Bool, false, not, List, Option, Some, None, slice_get}
use Rattle.choice_bits.specs.Choices.{has_choice}

abbrev pub ready_at : Option ℕ → ℕ → Bool
ready_at None choice = false
ready_at (Some ready) choice = has_choice ready choice

-- the group itself has one ready choice at most
abbrev pub is_own : Option ℕ → ℕ → Bool
is_own None choice = false
is_own (Some own) choice = own == choice

-- by the member's number, 0 for the group itself; while a group restart is in hand no member has anything ready
abbrev pub ready_for : Bool → Option ℕ → List ℕ → ℕ → ℕ → Bool
ready_for restarting own ready zero choice = is_own own choice
ready_for restarting own ready (suc at) choice = not restarting && ready_at (slice_get ready at) choice

abbrev pub is_ready : Bool → Option ℕ → List ℕ → ℕ → Bool
is_ready restarting own ready event = ready_for restarting own ready (event % 64) (event / 64)
