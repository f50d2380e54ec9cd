-- That the versions of pages of which logs tell are pages' bytes.
use Rattle.std.specs.Prelude.{ℕ, List}
use Rattle.ds_base.specs.declared.names.PageId.{PageId}
use Rattle.log_tells.specs.Told.{IsTold, Told}
use Rattle.page_protocol.specs.Moves.{World}
use Rattle.page_numbers.specs.Recorded.{AreWhole}

abbrev pub ToldAreWhole : Type 0
ToldAreWhole = (name : ℕ → PageId) (w : World) (content : ℕ → ℕ → List ℕ) (told : List Told) → IsTold name w content told → AreWhole w content
