-- Functions that are altered at one place.
use Rattle.std.specs.Prelude.{ℕ, ◌&&◌, if◌then◌else◌, ◌==◌}

abbrev pub alter : {A : Type 0} → (ℕ → A) → ℕ → (A → A) → ℕ → A
alter f k g q = if q == k then g (f q) else f q

abbrev pub alter2 : {A : Type 0} → (ℕ → ℕ → A) → ℕ → ℕ → (A → A) → ℕ → ℕ → A
alter2 f k l g a b = if (a == k) && (b == l) then g (f a b) else f a b

abbrev pub put : {A : Type 0} → (ℕ → A) → ℕ → A → ℕ → A
put f k x q = if q == k then x else f q

abbrev pub put2 : {A : Type 0} → (ℕ → ℕ → A) → ℕ → ℕ → A → ℕ → ℕ → A
put2 f k l x a b = if (a == k) && (b == l) then x else f a b

abbrev pub put3 : {A : Type 0} → (ℕ → ℕ → ℕ → A) → ℕ → ℕ → ℕ → A → ℕ → ℕ → ℕ → A
put3 f k l m x a b c = if (a == k) && ((b == l) && (c == m)) then x else f a b c
