-- The first Checkpoint whose offset may not stand there.
use Rattle.std.specs.Prelude.{◌≡◌, ℕ, Bool, true, if◌then◌else◌, List, [], ◌∷◌, ◌++◌, Option, None, Some, is_some}
use Rattle.std.specs.List.{AllByRecursion}
use Rattle.std.specs.Ordering.{nat_cmp}
use Rattle.std.specs.FinMap as finite
use Rattle.ds_model.specs.declared.log.LogRecord.{LogRecord}
use Rattle.ds_model.specs.declared.log.Body.{Body}
use Rattle.ds_model.specs.declared.log.Body.TheVariants as body
use Rattle.log_record.specs.declared.log.Log.{Log}
use Rattle.disk_spots.specs.declared.spot.Spot.{Spot}
use Rattle.disk_spots.specs.Spots.{or_behind}
use Rattle.sound_disk.specs.Checkpoints.{next_place, offset_fits, offsets_fit}

-- where it begins, of records that begin at this byte; others of the log begin at these places before
abbrev pub bad_offset_from : List ℕ → ℕ → List LogRecord → Option ℕ
bad_offset_from places at [] = None
bad_offset_from places at (r ∷ rs) = if offset_fits (places ++ at ∷ []) r.body then bad_offset_from (places ++ at ∷ []) (next_place at r) rs else Some at

abbrev pub bad_offset : List LogRecord → Option ℕ
bad_offset records = bad_offset_from [] 0 records

-- by the order of the logs, and in each by the order of its records
abbrev pub bad_spot : List Log → Option Spot
bad_spot [] = None
bad_spot (log ∷ logs) = or_behind (bad_spot logs) log.member (bad_offset log.records)

-- there is none
abbrev pub OffsetsFit : List Log → Type 0
OffsetsFit logs = AllByRecursion (λ (l : Log). offsets_fit [] 0 l.records ≡ true) logs

-- ---- the same with the places as a set of numbers

abbrev pub Places : Type 0
Places = finite.FinMap nat_cmp Bool

abbrev pub fits_among : Places → Body → Bool
fits_among places (body.Checkpoint offset) = is_some (finite.get places offset)
fits_among places (body.RowChange change) = true
fits_among places (body.Compensation change undone) = true
fits_among places (body.System patches) = true
fits_among places body.Commit = true
fits_among places body.Ended = true
fits_among places body.RestartEnd = true

abbrev pub with_place : Places → ℕ → Places
with_place places at = finite.insert places at true

abbrev pub bad_among : Places → ℕ → List LogRecord → Option ℕ
bad_among places at [] = None
bad_among places at (r ∷ rs) = if fits_among (with_place places at) r.body then bad_among (with_place places at) (next_place at r) rs else Some at
