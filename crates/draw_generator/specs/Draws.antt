-- The states of the generator, and what is drawn.
use Rattle.std.specs.Prelude.{ℕ, ◌+◌, ◌*◌, ◌/◌, ◌%◌, ◌^◌, ◌<◌}

abbrev pub IsState : ℕ → Type 0
IsState x = x < 2 ^ 64

-- the state behind a draw
unfoldable pub next_state : ℕ → ℕ
next_state x = (x * 6364136223846793005 + 1442695040888963407) % 2 ^ 64

-- what a draw from this state gives
unfoldable pub drawn : ℕ → ℕ
drawn x = next_state x / 2 ^ 33
