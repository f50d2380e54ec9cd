-- Functions that are altered at one place.
use Rattle.std.specs.Prelude.{ℕ, if◌then◌else◌, ◌==◌}

abbrev pub put : {A : Type 0} → (ℕ → A) → ℕ → A → ℕ → A
put f k x q = if q == k then x else f q
