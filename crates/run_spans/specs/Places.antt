-- A place for each member.
use Rattle.std.specs.Prelude.{ℕ, ◌==◌, if◌then◌else◌, List, slice_index}
use Rattle.run_spans.specs.declared.member_places.MemberPlaces.{MemberPlaces}

unfoldable pub nowhere : ℕ → ℕ
nowhere member = 0

unfoldable pub with_place : ℕ → ℕ → (ℕ → ℕ) → ℕ → ℕ
with_place member place places m = if m == member then place else places m

unfoldable pub place_at : List ℕ → ℕ → ℕ
place_at places member = slice_index places member

abbrev pub place_in : MemberPlaces → ℕ → ℕ
place_in kept = place_at kept.places.items
