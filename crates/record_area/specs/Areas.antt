-- The room for records.
use Rattle.std.specs.Prelude.{ℕ}

pub record Room : Type 0 where
  pub free : ℕ
  pub size : ℕ
