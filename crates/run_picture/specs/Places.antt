-- Where events and transactions stand in a picture.
use Rattle.std.specs.Prelude.{ℕ, ◌+◌, ◌-◌, ◌*◌, ◌/◌, ◌%◌, ◌^◌, ◌≤◌, ◌==◌, min, max, Bool, true, false, ◌&&◌, ◌||◌, if◌then◌else◌, nat_lt, nat_le, List, [], ◌∷◌, length, Option, Some, None, is_none, unwrap_or, slice_get, slice_index_or}
use Rattle.std.specs.List.{fold}
use Rattle.ds_model.specs.declared.report.EventLine.{EventLine}
use Rattle.ds_model.specs.declared.report.ReportEntry.{ReportEntry}
use Rattle.ds_model.specs.declared.report.Told.{Told}
use Rattle.ds_model.specs.declared.report.Told.TheVariants as told
use Rattle.picture_text.specs.declared.picture.Kind.{Kind}
use Rattle.picture_text.specs.declared.picture.Kind.TheVariants as kind
use Rattle.picture_text.specs.declared.picture.Spot.{Spot}
use Rattle.picture_text.specs.declared.picture.Shape.{Shape}
use Rattle.run_picture.specs.declared.scale.Scale.{Scale}
use Rattle.run_picture.specs.declared.lane.Lane.{Lane}
use Rattle.run_picture.specs.declared.cut.Cut.{Cut}

-- ---- from the left to the right, by places

abbrev pub has : Scale → ℕ → Bool
has s place = nat_le s.from place && nat_lt (place - s.from) s.count

-- what lies outside is at one of the sides
unfoldable pub across_of : Scale → ℕ → ℕ
across_of s place = 76 + min (min (min (place - s.from) s.count * 1190) (2 ^ 64 - 1) / max s.count 1) 1190

-- each event of a short run, and each so many-th of a long one
abbrev pub draws : Scale → ℕ → Bool
draws s place = has s place && (place % (s.count / 4000 + 1) == 0)

-- whether something that goes from one place to another is in the picture
abbrev pub meets : Scale → ℕ → ℕ → Bool
meets s first last = s.is_whole || (nat_le s.from last && (nat_le first s.from || has s first))

abbrev pub is_whole : Cut → Bool
is_whole cut = is_none cut.from && is_none cut.to

-- the events that are drawn, of so many
abbrev pub scale_of : Cut → ℕ → Scale
scale_of cut events = record { from = unwrap_or cut.from 1; count = min (min (unwrap_or cut.to events) events - unwrap_or cut.from 1 + 1) (2 ^ 64 - 1); is_whole = is_whole cut }

-- ---- from the top to the bottom, by members

abbrev pub IsTall : Lane → Type 0
IsTall lane = lane.top + 34 ≤ lane.bottom

-- the greatest number of a member that has an event or a transaction
abbrev pub with_event : ℕ → EventLine → ℕ
with_event n e = max n e.member

abbrev pub with_entry : ℕ → ReportEntry → ℕ
with_entry n e = max n e.member

unfoldable pub members_in : List ReportEntry → List EventLine → ℕ
members_in entries events = fold with_entry (fold with_event 0 events) entries

-- the lane of a member; where there is none that is tall enough, one above all
abbrev pub ground : Lane
ground = record { top = 0; bottom = 34 }

abbrev pub tall : Lane → Lane
tall lane = if nat_le 34 lane.bottom && nat_le lane.top (lane.bottom - 34) then lane else ground

abbrev pub lane_of : List Lane → ℕ → Lane
lane_of lanes member = tall (slice_index_or lanes member ground)

-- the height of all lanes, with some space below
abbrev pub height_by : Option Lane → ℕ
height_by None = 70
height_by (Some lane) = min (lane.bottom + 20) (2 ^ 64 - 1)

abbrev pub height_of : List Lane → ℕ
height_of lanes = height_by (slice_get lanes (length lanes - 1))

-- where the stroke of an event begins: in its member's lane, at its place
abbrev pub spot_of : Scale → List Lane → EventLine → Spot
spot_of s lanes e = record { across = across_of s e.place; down = (lane_of lanes e.member).top + 24 }

abbrev pub spots_of : Scale → List Lane → EventLine → List Spot
spots_of s lanes e = if draws s e.place then spot_of s lanes e ∷ [] else []

abbrev pub pixels_of : Scale → EventLine → List ℕ
pixels_of s e = if draws s e.place then across_of s e.place ∷ [] else []

-- the kind of a transaction's bar
abbrev pub kind_of : Told → Kind
kind_of (told.Committed true reads) = kind.Answered
kind_of (told.Committed false reads) = kind.Unanswered
kind_of (told.Refused refusal) = kind.Refused
kind_of told.Stopped = kind.Stopped

-- a shape lies in a lane
pub record IsWithin (shape : Shape) (lane : Lane) : Type 0 where
  pub below_top : lane.top ≤ shape.from.down
  pub above_bottom : shape.to.down ≤ lane.bottom
