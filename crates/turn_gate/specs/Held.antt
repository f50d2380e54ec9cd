-- What lies in a place.
use Rattle.std.specs.Prelude.{◌≡◌, Option, Some, None, true, is_some}
use Rattle.std.proofs.Common.{sym}
use mathlib.Core.Bool.{true≢false}

abbrev pub held : {A : Type 0} → (place : Option A) → is_some place ≡ true → A
held {A} (Some value) full = value
held {A} None full = absurd (true≢false (sym full))
