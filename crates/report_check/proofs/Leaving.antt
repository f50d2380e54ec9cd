-- What holds of each element, as far as a loop has come.
use Rattle.std.specs.Prelude.{List}
use Rattle.std.specs.List.{AllByRecursion}

-- of these elements it is left to be shown
pub record Leaves {X : Type 0} (P : X → Type 0) (all left : List X) : Type 0 where
  pub whole : AllByRecursion P left → AllByRecursion P all
  pub needed : AllByRecursion P all → AllByRecursion P left
