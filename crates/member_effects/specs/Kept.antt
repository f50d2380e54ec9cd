-- The marks of a member and the bytes of its frames, where both change.
use Rattle.std.specs.Prelude.{ℕ, List}
use Rattle.member_needs.specs.Given.{MarksState}

pub record Kept : Type 0 where
  pub marks : MarksState
  pub pages : List (List ℕ)
