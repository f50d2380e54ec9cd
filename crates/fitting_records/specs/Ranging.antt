-- The first record that doesn't fit those before it, found by range after range.
use Rattle.std.specs.Prelude.{◌≡◌, ℕ, List, Option, None, Some}
use Rattle.ds_model.specs.declared.log.LogRecord.{LogRecord}
use Rattle.log_record.specs.declared.log.Log.{Log}
use Rattle.disk_spots.specs.declared.spot.Spot.{Spot}
use Rattle.disk_spots.specs.declared.spot.Spot.TheVariants as spot
use Rattle.fitting_records.specs.declared.ranged.NumberRange.{NumberRange}
use Rattle.fitting_records.specs.declared.ranged.Place.{Place}
use Rattle.fitting_records.specs.declared.ranged.RangeSeen.{RangeSeen}
use Rattle.fitting_records.specs.Fitting.{nothing_seen, unfit_among}
use Rattle.fitting_records.specs.Ranges.{nothing_in, range_from, range_among}

abbrev pub spot_at : Option Place → Option Spot
spot_at None = None
spot_at (Some place) = Some (spot.Log place.member place.at)

-- what the records of the member's log say
abbrev pub IsRangedFrom : ℕ → RangeSeen → RangeSeen → List LogRecord → Type 0
IsRangedFrom member old new records = new ≡ range_from member old 0 records

-- what those of all logs say
abbrev pub IsRangedBy : NumberRange → RangeSeen → List Log → Type 0
IsRangedBy range seen logs = seen ≡ range_among (nothing_in range) logs

-- the place is that of the first record of all that doesn't fit
abbrev pub IsSearched : Option Place → List Log → Type 0
IsSearched found logs = spot_at found ≡ unfit_among nothing_seen logs
