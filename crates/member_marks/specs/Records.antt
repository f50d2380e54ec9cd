-- The records of the log buffer, and what they say of the transactions.
use Rattle.std.specs.Prelude.{ℕ, ◌+◌, ◌-◌, Bool, false, not, ◌&&◌, ◌==◌, nat_le, nat_lt, if◌then◌else◌, Option, Some, None, length, List, [], ◌∷◌}
use Rattle.ds_base.specs.Pages.{heap_set, heap_page}
use Rattle.ds_base.specs.declared.names.PageId.{PageId}
use Rattle.ds_model.specs.declared.log.LogRecord.{LogRecord}
use Rattle.ds_model.specs.declared.log.RowChange.{RowChange}
use Rattle.ds_model.specs.declared.log.Body.{Body}
use Rattle.ds_model.specs.declared.log.Body.TheVariants as body
use Rattle.ds_model.specs.declared.log.Version.TheVariants as version
use Rattle.ds_model.specs.RecordBytes.{record_bytes}
use Rattle.page_format.specs.declared.patch.Patch.{Patch}
use Rattle.member_log.specs.Given.{inverse}
use Rattle.member_log.specs.Buffers.{LogBuffer, room_of, after_put, after_force}
use Rattle.member_trans.specs.declared.fate.Change.{Change}
use Rattle.member_trans.specs.declared.fate.Owner.{Owner}
use Rattle.member_trans.specs.declared.fate.Owner.TheVariants as owner
use Rattle.member_trans.specs.Trans.{TransState, TranState, tran_at, with_tran, with_tran_of, with_set_of, changed, with_undone, newest_of, first_with, is_forward, after_draw, after_decide}
use Rattle.member_marks.specs.State.{MarksState, tran_of, slot_tran}

abbrev pub fits_in : LogBuffer → LogRecord → Bool
fits_in b r = nat_le (length (record_bytes r)) (room_of b)

-- the buffer with the record, if there is room for it
abbrev pub logged : LogBuffer → LogRecord → LogBuffer
logged b r = if fits_in b r then after_put b r else b

-- the place can be that of a row
abbrev pub is_at_row : RowChange → Bool
is_at_row c = not (c.place.page == 0) && nat_lt c.place.slot 31

abbrev pub page_undone : Option Change → Option PageId
page_undone None = None
page_undone (Some it) = Some (heap_page it.change.table it.change.place.page)

abbrev pub undo_page : MarksState → Owner → Option PageId
undo_page s o = page_undone (newest_of (tran_of s o))

-- ---- a row change

abbrev pub row_record : TranState → ℕ → RowChange → LogRecord
row_record t lrsn c = record { version = version.Two; lrsn = lrsn; tran = first_with t.first lrsn; body = body.RowChange c }

abbrev pub may_change : MarksState → ℕ → ℕ → RowChange → Bool
may_change s slot lrsn c = not (lrsn == 0) && (is_at_row c && ((slot_tran s slot).has_room && fits_in s.log (row_record (slot_tran s slot) lrsn c)))

abbrev pub set_noted : TransState → ℕ → ℕ → TransState
set_noted t slot set = with_set_of t (owner.Slot slot) set

abbrev pub row_noted : TransState → ℕ → ℕ → RowChange → TransState
row_noted t slot lrsn c = set_noted (with_tran t slot (changed (tran_at t slot) lrsn c)) slot (heap_set c.table)

abbrev pub after_change : MarksState → ℕ → ℕ → RowChange → MarksState
after_change s slot lrsn c =
    if may_change s slot lrsn c
    then record s { log = after_put s.log (row_record (slot_tran s slot) lrsn c); trans = row_noted s.trans slot lrsn c }
    else s

-- ---- changed pages

abbrev pub sets_noted : TransState → ℕ → List Patch → TransState
sets_noted t slot [] = t
sets_noted t slot (p ∷ ps) = sets_noted (set_noted t slot p.page.set) slot ps

abbrev pub body_noted : TransState → ℕ → Body → TransState
body_noted t slot (body.RowChange c) = t
body_noted t slot (body.Compensation c undone) = t
body_noted t slot (body.System ps) = sets_noted t slot ps
body_noted t slot body.Commit = t
body_noted t slot body.Ended = t
body_noted t slot (body.Checkpoint offset) = t
body_noted t slot body.RestartEnd = t

abbrev pub after_system : MarksState → ℕ → LogRecord → MarksState
after_system s slot r =
    if fits_in s.log r then record s { log = after_put s.log r; trans = body_noted s.trans slot r.body } else s

-- ---- a change is taken back

abbrev pub back_record : TranState → ℕ → Change → LogRecord
back_record t lrsn it = record { version = version.Two; lrsn = lrsn; tran = t.first; body = body.Compensation (inverse it.change) it.lrsn }

abbrev pub ended_record : TranState → ℕ → LogRecord
ended_record t lrsn = record { version = version.Two; lrsn = lrsn; tran = t.first; body = body.Ended }

-- there is room for both records
abbrev pub both_fit : LogBuffer → LogRecord → LogRecord → Bool
both_fit b r q = nat_le (length (record_bytes r) + length (record_bytes q)) (room_of b)

-- the second stands behind the first where that is the last
abbrev pub both_logged : LogBuffer → LogRecord → LogRecord → Bool → LogBuffer
both_logged b r q is_last = if is_last then after_put (after_put b r) q else after_put b r

-- the newest change of the owner's transaction is taken back by the one record, on a page of this page set, and ended by the other behind the last one
abbrev pub back_noted : TransState → Owner → TranState → ℕ → ℕ → TransState
back_noted t o it lrsn set = with_set_of (with_tran_of t o (with_undone it lrsn)) o set

abbrev pub after_back : MarksState → Owner → ℕ → ℕ → LogRecord → LogRecord → MarksState
after_back s o lrsn set r q =
    if both_fit s.log r q
    then record s { log = both_logged s.log r q (length (tran_of s o).changes == 1); trans = back_noted s.trans o (tran_of s o) lrsn set }
    else s

abbrev pub may_back : TranState → Change → Bool
may_back t it = not (t.first == 0) && is_at_row it.change

abbrev pub undone_of : MarksState → Owner → ℕ → Change → MarksState
undone_of s o lrsn it =
    if may_back (tran_of s o) it
    then after_back s o lrsn (heap_set it.change.table) (back_record (tran_of s o) lrsn it) (ended_record (tran_of s o) lrsn)
    else s

abbrev pub undone_as : MarksState → Owner → ℕ → Option Change → MarksState
undone_as s o lrsn None = s
undone_as s o lrsn (Some it) = undone_of s o lrsn it

abbrev pub after_undo : MarksState → Owner → ℕ → MarksState
after_undo s o lrsn = undone_as s o lrsn (newest_of (tran_of s o))

abbrev pub may_undo_as : MarksState → Owner → ℕ → Option Change → Bool
may_undo_as s o lrsn None = false
may_undo_as s o lrsn (Some it) = may_back (tran_of s o) it && both_fit s.log (back_record (tran_of s o) lrsn it) (ended_record (tran_of s o) lrsn)

-- ---- a commit

abbrev pub commit_record : TranState → ℕ → LogRecord
commit_record t lrsn = record { version = version.Two; lrsn = lrsn; tran = first_with t.first lrsn; body = body.Commit }

abbrev pub may_commit : MarksState → ℕ → ℕ → Bool
may_commit s slot lrsn = not (lrsn == 0) && (is_forward (slot_tran s slot).stage && fits_in s.log (commit_record (slot_tran s slot) lrsn))

abbrev pub after_commit : MarksState → ℕ → ℕ → MarksState
after_commit s slot lrsn =
    if may_commit s slot lrsn
    then record s { log = after_put s.log (commit_record (slot_tran s slot) lrsn); trans = after_draw s.trans slot }
    else s

-- ---- the buffer stands in the log

abbrev pub after_append : MarksState → MarksState
after_append s = record s { log = after_force s.log; trans = after_decide s.trans }
