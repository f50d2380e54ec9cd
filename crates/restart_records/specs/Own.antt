-- The log of the member itself.
use Rattle.std.specs.Prelude.{◌≡◌, ℕ, ◌-◌, Bool, true, false, List, [], ◌∷◌, length, slice_get, Option, None, Some}
use Rattle.ds_base.specs.declared.names.PageId.{PageId}
use Rattle.ds_model.specs.declared.log.LogRecord.{LogRecord}
use Rattle.log_record.specs.declared.log.Log.{Log}
use Rattle.checkpoint_reader.specs.Given.{LogCall}
use Rattle.checkpoint_reader.specs.Readers.{ReaderState, IsNew, next_call}
use Rattle.page_records.specs.declared.places.PageRecords.{PageRecords}
use Rattle.restart_records.specs.Maps.{PagePlaces, with_places}
use Rattle.page_records.specs.Places.{by_page}

-- what is read of it, until it is read whole; then its records, the places of those that change each page, how many bytes they have,
-- and how many follow them
pub record OwnState : Type 0 where
  pub reader : Option ReaderState
  pub is_read : Bool
  pub records : List LogRecord
  pub places : PagePlaces
  pub long : ℕ
  pub tail : ℕ

abbrev pub HasNewReader : ℕ → Option ReaderState → Type 0
HasNewReader member None = ⊥
HasNewReader member (Some r) = IsNew member r

-- up to this byte it is known to be whole records
abbrev pub KnowsTo : ℕ → Option ReaderState → Type 0
KnowsTo known None = ⊥
KnowsTo known (Some r) = r.known ≡ known

-- nothing is read yet
pub record IsNewLog (member : ℕ) (o : OwnState) : Type 0 where
  pub reader : HasNewReader member o.reader
  pub rest : o ≡ record { reader = o.reader; is_read = false; records = []; places = []; long = 0; tail = 0 }

abbrev pub next_in : Option ReaderState → Option LogCall
next_in None = None
next_in (Some r) = Some (next_call r)

abbrev pub own_with : OwnState → Option ReaderState → OwnState
own_with o reader = record o { reader = reader }

-- ---- by page

abbrev pub all_put : PagePlaces → List PageRecords → PagePlaces
all_put places [] = places
all_put places (p ∷ ps) = all_put (with_places places p.page p.places) ps

abbrev pub places_by_page : List LogRecord → PagePlaces
places_by_page records = all_put [] (by_page records)

-- ---- it is read whole

abbrev pub own_read : Log → PagePlaces → OwnState
own_read log places = record { reader = None; is_read = true; records = log.records; places = places; long = log.length; tail = log.tail }

abbrev pub number_in : Option LogRecord → ℕ
number_in None = 0
number_in (Some r) = r.lrsn

-- the number of the last record, 0 where there is none
abbrev pub last_number : List LogRecord → ℕ
last_number records = number_in (slice_get records (length records - 1))
