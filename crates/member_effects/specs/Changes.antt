-- Changes for which a number was drawn.
use Rattle.std.specs.Prelude.{ℕ, nat_lt, false, if◌then◌else◌, List, [], length, slice_index_or, slice_set, Option, Some, None}
use Rattle.ds_base.specs.declared.names.PageId.{PageId}
use Rattle.ds_model.specs.declared.fate.Refusal.TheVariants as refusal
use Rattle.ds_model.specs.declared.log.LogRecord.{LogRecord}
use Rattle.ds_model.specs.declared.log.RowChange.{RowChange}
use Rattle.ds_model.specs.declared.log.Body.TheVariants as body
use Rattle.ds_model.specs.declared.log.Version.TheVariants as version
use Rattle.page_format.specs.declared.patch.Patch.{Patch}
use Rattle.heap_space.specs.Written.{written}
use Rattle.write_order.specs.Ranks.{rank_of}
use Rattle.page_plans.specs.Rows.{after_row}
use Rattle.facility.specs.declared.command.Reply.{Reply}
use Rattle.facility.specs.declared.command.Reply.TheVariants as reply
use Rattle.member_trans.specs.declared.fate.Owner.{Owner}
use Rattle.member_trans.specs.declared.fate.Owner.TheVariants as owner
use Rattle.member_needs.specs.Given.{MarksState}
use Rattle.member_needs.specs.Given.{offered}
use Rattle.member_needs.specs.Given.{frame_in, after_registered, after_marked}
use Rattle.member_needs.specs.Given.{after_change, after_system, after_undo, after_commit}
use Rattle.member_needs.specs.declared.plans.Plan.{Plan}
use Rattle.member_needs.specs.declared.plans.Plan.TheVariants as plan
use Rattle.member_needs.specs.Plans.{Frames}
use Rattle.member_needs.specs.Records.{frame_of}
use Rattle.member_effects.specs.declared.told.Told.{Told}
use Rattle.member_effects.specs.declared.told.Told.TheVariants as told
use Rattle.member_effects.specs.Kept.{Kept}

-- ---- pages

abbrev pub bytes_at : List (List ℕ) → ℕ → List ℕ
bytes_at pages at = slice_index_or pages at []

-- the frame is changed, with the rank of the page that it has now
abbrev pub marked_page : Kept → ℕ → PageId → Kept
marked_page k at id = record k { marks = after_marked k.marks at (rank_of id (bytes_at k.pages at)) }

-- the frame has these bytes now, and is changed
abbrev pub put_page : Kept → ℕ → PageId → List ℕ → Kept
put_page k at id page = marked_page (record k { pages = slice_set k.pages at page }) at id

abbrev pub patched_page : Kept → ℕ → Option PageId → List Patch → ℕ → Kept
patched_page k at None patches lrsn = k
patched_page k at (Some id) patches lrsn =
    if nat_lt at (length k.pages) then put_page k at id (written id lrsn patches (bytes_at k.pages at)) else k

-- the page in the frame is changed by those of the patches that are for it
abbrev pub patched_frame : Kept → ℕ → List Patch → ℕ → Kept
patched_frame k at patches lrsn = patched_page k at (frame_in k.marks.heads at).page patches lrsn

abbrev pub patched_nth : Kept → Option ℕ → List Patch → ℕ → Kept
patched_nth k None patches lrsn = k
patched_nth k (Some at) patches lrsn = patched_frame k at patches lrsn

abbrev pub patched_frames : Kept → Frames → List Patch → ℕ → Kept
patched_frames k frames patches lrsn =
    patched_nth (patched_nth (patched_nth k (frame_of frames 0) patches lrsn) (frame_of frames 1) patches lrsn) (frame_of frames 2) patches lrsn

abbrev pub row_page : Kept → ℕ → Option PageId → RowChange → ℕ → Kept
row_page k at None c lrsn = k
row_page k at (Some id) c lrsn = if nat_lt at (length k.pages) then put_page k at id (after_row lrsn c (bytes_at k.pages at)) else k

-- the page in the frame has the row after the change
abbrev pub row_frame : Kept → ℕ → RowChange → ℕ → Kept
row_frame k at c lrsn = row_page k at (frame_in k.marks.heads at).page c lrsn

abbrev pub row_nth : Kept → Option ℕ → RowChange → ℕ → Kept
row_nth k None c lrsn = k
row_nth k (Some at) c lrsn = row_frame k at c lrsn

-- ---- records

abbrev pub with_marks : Kept → MarksState → Kept
with_marks k s = record k { marks = s }

abbrev pub system_record : List Patch → ℕ → LogRecord
system_record patches lrsn = record { version = version.Two; lrsn = lrsn; tran = 0; body = body.System patches }

abbrev pub system_logged : Kept → ℕ → List Patch → ℕ → Kept
system_logged k slot patches lrsn = with_marks k (after_system k.marks slot (system_record patches lrsn))

abbrev pub row_logged : Kept → ℕ → RowChange → ℕ → Kept
row_logged k slot c lrsn = with_marks k (after_change k.marks slot lrsn c)

abbrev pub back_logged : Kept → Owner → ℕ → Kept
back_logged k o lrsn = with_marks k (after_undo k.marks o lrsn)

-- the change that was planned, with the number that was drawn for it
abbrev pub changed_by : Kept → ℕ → Frames → Plan → ℕ → Kept
changed_by k slot frames plan.None lrsn = k
changed_by k slot frames (plan.System patches) lrsn = system_logged (patched_frames k frames patches lrsn) slot patches lrsn
changed_by k slot frames (plan.Row c) lrsn = row_logged (row_nth k (frame_of frames 0) c lrsn) slot c lrsn
changed_by k slot frames (plan.Back c) lrsn = k
changed_by k slot frames (plan.Fault page at) lrsn = k

abbrev pub plan_told : Plan → Told
plan_told plan.None = told.Drawn
plan_told (plan.System patches) = told.Drawn
plan_told (plan.Row c) = told.Drawn
plan_told (plan.Back c) = told.Drawn
plan_told (plan.Fault page at) = told.Damaged page at

-- the newest change is taken back as it was planned, with the number that was drawn for it
abbrev pub back_by : Kept → Owner → ℕ → Plan → ℕ → Kept
back_by k o at plan.None lrsn = k
back_by k o at (plan.System patches) lrsn = k
back_by k o at (plan.Row c) lrsn = k
back_by k o at (plan.Back c) lrsn = back_logged (row_frame k at c lrsn) o lrsn
back_by k o at (plan.Fault page offset) lrsn = k

abbrev pub back_told : Plan → Told
back_told plan.None = told.Drawn
back_told (plan.System patches) = told.Drawn
back_told (plan.Row c) = told.Drawn
back_told (plan.Back c) = told.Drawn
back_told (plan.Fault page at) = told.Damaged page at

-- ---- the reply

abbrev pub undrawn_after : MarksState → Owner → Reply → ℕ → MarksState
undrawn_after s o (reply.Stale index) place = after_registered s index false
undrawn_after s o (reply.LrsnEnd at) place = offered s o (refusal.LrsnEnd at) place
undrawn_after s o _ place = s

abbrev pub undrawn_told : Reply → Told
undrawn_told (reply.Stale index) = told.Stale index
undrawn_told (reply.LrsnEnd at) = told.Refused
undrawn_told _ = told.Stepped

abbrev pub drawn_after : Kept → ℕ → Frames → Plan → Reply → ℕ → Kept
drawn_after k slot frames p (reply.Drawn lrsn) place = changed_by k slot frames p lrsn
drawn_after k slot frames p other place = with_marks k (undrawn_after k.marks (owner.Slot slot) other place)

abbrev pub drawn_told : Plan → Reply → Told
drawn_told p (reply.Drawn lrsn) = plan_told p
drawn_told p other = undrawn_told other

abbrev pub undone_after : Kept → Owner → ℕ → Plan → Reply → ℕ → Kept
undone_after k o at p (reply.Drawn lrsn) place = back_by k o at p lrsn
undone_after k o at p other place = with_marks k (undrawn_after k.marks o other place)

abbrev pub undone_told : Plan → Reply → Told
undone_told p (reply.Drawn lrsn) = back_told p
undone_told p other = undrawn_told other

abbrev pub committed_after : MarksState → ℕ → Reply → ℕ → MarksState
committed_after s slot (reply.Drawn lrsn) place = after_commit s slot lrsn
committed_after s slot other place = undrawn_after s (owner.Slot slot) other place

abbrev pub committed_told : Reply → Told
committed_told (reply.Drawn lrsn) = told.Drawn
committed_told other = undrawn_told other
