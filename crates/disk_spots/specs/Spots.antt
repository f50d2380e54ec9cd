-- Where in logs a record stands.
use Rattle.std.specs.Prelude.{ℕ, ◌+◌, ◌==◌, Bool, ◌&&◌, if◌then◌else◌, List, [], ◌∷◌, length, Option, None, Some}
use Rattle.ds_model.specs.declared.log.LogRecord.{LogRecord}
use Rattle.ds_model.specs.RecordBytes.{record_bytes}
use Rattle.log_record.specs.Changes.{is_drawn}
use Rattle.log_record.specs.declared.log.Log.{Log}
use Rattle.disk_spots.specs.declared.spot.Spot.{Spot}
use Rattle.disk_spots.specs.declared.spot.Spot.TheVariants as spot

-- where the first record with the number begins, of records that begin at this byte
abbrev pub place_from : ℕ → ℕ → List LogRecord → Option ℕ
place_from number at [] = None
place_from number at (r ∷ rs) = if r.lrsn == number then Some at else place_from number (at + length (record_bytes r)) rs

abbrev pub or_behind : Option Spot → ℕ → Option ℕ → Option Spot
or_behind more member None = more
or_behind more member (Some at) = Some (spot.Log member at)

-- the first record with the number, by the order of the logs, and in each by the order of its records
abbrev pub spot_of : ℕ → List Log → Option Spot
spot_of number [] = None
spot_of number (log ∷ logs) = or_behind (spot_of number logs) log.member (place_from number 0 log.records)

-- ---- of drawn numbers alone

abbrev pub has_drawn : ℕ → LogRecord → Bool
has_drawn number r = is_drawn r.body && (r.lrsn == number)

abbrev pub drawn_place_from : ℕ → ℕ → List LogRecord → Option ℕ
drawn_place_from number at [] = None
drawn_place_from number at (r ∷ rs) = if has_drawn number r then Some at else drawn_place_from number (at + length (record_bytes r)) rs

-- the first record for which the number was drawn
abbrev pub drawn_spot_of : ℕ → List Log → Option Spot
drawn_spot_of number [] = None
drawn_spot_of number (log ∷ logs) = or_behind (drawn_spot_of number logs) log.member (drawn_place_from number 0 log.records)
