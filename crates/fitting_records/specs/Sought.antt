-- The first record with a number, of records that are read one after the other.
use Rattle.std.specs.Prelude.{◌≡◌, ℕ, ◌+◌, ◌==◌, Bool, true, false, if◌then◌else◌, List, [], ◌∷◌, length, Option, None, Some}
use Rattle.ds_model.specs.declared.log.LogRecord.{LogRecord}
use Rattle.ds_model.specs.RecordBytes.{record_bytes}
use Rattle.log_record.specs.declared.log.Log.{Log}
use Rattle.disk_spots.specs.declared.spot.Spot.{Spot}
use Rattle.disk_spots.specs.Spots.{or_behind, has_drawn}

-- the record has the number, or it was drawn for it
abbrev pub is_sought : Bool → ℕ → LogRecord → Bool
is_sought true number r = has_drawn number r
is_sought false number r = r.lrsn == number

abbrev pub place_of : Bool → ℕ → ℕ → List LogRecord → Option ℕ
place_of drawn number at [] = None
place_of drawn number at (r ∷ rs) = if is_sought drawn number r then Some at else place_of drawn number (at + length (record_bytes r)) rs

abbrev pub spot_in : Bool → ℕ → List Log → Option Spot
spot_in drawn number [] = None
spot_in drawn number (log ∷ logs) = or_behind (spot_in drawn number logs) log.member (place_of drawn number 0 log.records)

-- the place is that of the first such record
abbrev pub IsPlaceOf : Bool → ℕ → Option ℕ → List LogRecord → Type 0
IsPlaceOf drawn number found rs = found ≡ place_of drawn number 0 rs

abbrev pub IsSpotIn : Bool → ℕ → Option Spot → List Log → Type 0
IsSpotIn drawn number found logs = found ≡ spot_in drawn number logs
