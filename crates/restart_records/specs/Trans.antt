-- The transactions that the own log leaves open.
use Rattle.std.specs.Prelude.{ℕ, ◌+◌, ◌-◌, ◌^◌, min, ◌==◌, nat_lt, Bool, true, false, not, ◌&&◌, if◌then◌else◌, List, [], ◌∷◌, ◌++◌, length, take, drop, map, filter, slice_get, slice_set, Option, Some, None, is_some}
use Rattle.ds_base.specs.Pages.{heap_page}
use Rattle.ds_base.specs.declared.names.PageId.{PageId}
use Rattle.ds_model.specs.declared.log.LogRecord.{LogRecord}
use Rattle.ds_model.specs.declared.log.RowChange.{RowChange}
use Rattle.ds_model.specs.declared.log.Body.{Body}
use Rattle.ds_model.specs.declared.log.Body.TheVariants as body
use Rattle.log_trans.specs.declared.opened.OpenTran.{OpenTran}
use Rattle.restart_records.specs.declared.trans.Newest.{Newest}
use Rattle.restart_records.specs.Maps.{NumberPlaces, place_at, with_place}
use Rattle.restart_records.specs.declared.trans.RestartTran.{RestartTran}
use Rattle.restart_records.specs.declared.trans.RestartStage.{RestartStage}
use Rattle.restart_records.specs.declared.trans.RestartStage.TheVariants as stage

-- by their numbers their places in the list; how many aren't over; the place of the one whose Ended record waits
pub record TransState : Type 0 where
  pub places : NumberPlaces
  pub list : List RestartTran
  pub left : ℕ
  pub ending : Option ℕ

abbrev pub no_trans : TransState
no_trans = record { places = []; list = []; left = 0; ending = None }

-- ---- row changes

-- the place can be that of a row
abbrev pub is_at_row : RowChange → Bool
is_at_row c = not (c.place.page == 0) && nat_lt c.place.slot 31

abbrev pub page_of : RowChange → PageId
page_of c = heap_page c.table c.place.page

-- ---- one transaction

abbrev pub is_open_stage : RestartStage → Bool
is_open_stage stage.Open = true
is_open_stage stage.Ended = false
is_open_stage stage.Over = false

abbrev pub is_open : RestartTran → Bool
is_open t = is_open_stage t.stage

abbrev pub newest_change : ℕ → RowChange → Option Newest
newest_change lrsn c = if is_at_row c then Some (record { lrsn = lrsn; change = c }) else None

abbrev pub newest_in : ℕ → Body → Option Newest
newest_in lrsn (body.RowChange c) = newest_change lrsn c
newest_in lrsn _ = None

abbrev pub newest_at : Option LogRecord → Option Newest
newest_at None = None
newest_at (Some r) = newest_in r.lrsn r.body

-- the newest row change that stands
abbrev pub newest_of : RestartTran → Option Newest
newest_of t = if is_open t && not (t.stands == 0) then newest_at (slice_get t.tran.undo (t.stands - 1)) else None

-- ---- all

abbrev pub tran_at : TransState → Option ℕ → Option RestartTran
tran_at t None = None
tran_at t (Some at) = slice_get t.list at

abbrev pub tran_in : TransState → ℕ → Option RestartTran
tran_in t id = tran_at t (place_at t.places id)

abbrev pub newest_by : Option RestartTran → Option Newest
newest_by None = None
newest_by (Some t) = newest_of t

abbrev pub newest : TransState → ℕ → Option Newest
newest t id = newest_by (tran_in t id)

abbrev pub is_undone_by : Option RestartTran → Bool
is_undone_by None = false
is_undone_by (Some t) = is_open t && (t.stands == 0)

abbrev pub is_undone : TransState → ℕ → Bool
is_undone t id = is_undone_by (tran_in t id)

abbrev pub is_last_by : Option RestartTran → Bool
is_last_by None = false
is_last_by (Some t) = t.stands == 1

abbrev pub is_last : TransState → ℕ → Bool
is_last t id = is_last_by (tran_in t id)

-- the heap page of the newest row change that stands
abbrev pub page_undone_by : Option Newest → Option PageId
page_undone_by None = None
page_undone_by (Some it) = Some (page_of it.change)

abbrev pub page_undone : TransState → ℕ → Option PageId
page_undone t id = page_undone_by (newest t id)

abbrev pub ending_in : TransState → Option RestartTran
ending_in t = tran_at t t.ending

-- ---- they come and go

abbrev pub added : TransState → OpenTran → TransState
added t o = record {
  places = with_place t.places o.id (length t.list);
  list = t.list ++ record { tran = o; stands = length o.undo; stage = stage.Open } ∷ [];
  left = min (t.left + 1) (2 ^ 64 - 1);
  ending = t.ending;
}

abbrev pub all_added : TransState → List OpenTran → TransState
all_added t [] = t
all_added t (o ∷ os) = all_added (added t o) os

-- how many of its row changes stand
abbrev pub kept_in : RestartTran → ℕ
kept_in t = min t.stands (length t.tran.undo)

-- the transaction as it stands now: the changes that were taken back stand behind those that were before
abbrev pub open_of : RestartTran → OpenTran
open_of t = record { id = t.tran.id; undo = take (kept_in t) t.tran.undo; undone = t.tran.undone ++ drop (kept_in t) t.tran.undo }

abbrev pub opened_among : List RestartTran → List OpenTran
opened_among list = map open_of (filter is_open list)

abbrev pub with_tran : TransState → ℕ → RestartTran → TransState
with_tran t at x = record t { list = slice_set t.list at x }

abbrev pub taken_back_from : TransState → ℕ → Option RestartTran → TransState
taken_back_from t at None = t
taken_back_from t at (Some x) = with_tran t at (record x { stands = x.stands - 1 })

abbrev pub taken_back : TransState → ℕ → TransState
taken_back t at = taken_back_from t at (slice_get t.list at)

abbrev pub after_back_at : TransState → Option ℕ → TransState
after_back_at t None = t
after_back_at t (Some at) = taken_back t at

abbrev pub after_back : TransState → ℕ → TransState
after_back t id = after_back_at t (place_at t.places id)

abbrev pub ended_from : TransState → ℕ → Option RestartTran → TransState
ended_from t at None = t
ended_from t at (Some x) = record (with_tran t at (record x { stage = stage.Ended })) { ending = Some at }

abbrev pub ended_at : TransState → ℕ → TransState
ended_at t at = ended_from t at (slice_get t.list at)

abbrev pub after_end_at : TransState → Option ℕ → TransState
after_end_at t None = t
after_end_at t (Some at) = ended_at t at

abbrev pub after_end : TransState → ℕ → TransState
after_end t id = after_end_at t (place_at t.places id)

abbrev pub over_from : TransState → ℕ → Option RestartTran → TransState
over_from t at None = t
over_from t at (Some x) = record (with_tran t at (record x { stage = stage.Over })) { left = t.left - 1 }

abbrev pub over_at : TransState → ℕ → TransState
over_at t at = over_from (record t { ending = None }) at (slice_get t.list at)

abbrev pub after_finish_at : TransState → Option ℕ → TransState
after_finish_at t None = t
after_finish_at t (Some at) = over_at t at

abbrev pub after_finish : TransState → TransState
after_finish t = after_finish_at t t.ending
