-- What an answer makes of marks refuses nothing, and allows nothing to be refused, but where no number is left.
use Rattle.std.proofs.Common.{◌≡◌, ℕ, Bool, true, false, ltb, List, [], ◌∷◌, length, Option, Some, None, is_some, refl, sym, subst}
use Rattle.std.specs.Prelude.{IfSome}
use Rattle.ds_base.specs.declared.names.PageId.{PageId}
use Rattle.ds_base.specs.Pages.{heap_set}
use Rattle.ds_model.specs.declared.fate.Refusal.TheVariants as refusal
use Rattle.ds_model.specs.declared.lock.Name.{Name}
use Rattle.ds_model.specs.declared.log.Body.{Body}
use Rattle.ds_model.specs.declared.log.Body.TheVariants as body
use Rattle.ds_model.specs.declared.log.LogRecord.{LogRecord}
use Rattle.ds_model.specs.declared.log.RowChange.{RowChange}
use Rattle.page_format.specs.declared.patch.Patch.{Patch}
use Rattle.write_order.specs.declared.rank.Rank.{Rank}
use Rattle.facility.specs.declared.command.Reply.{Reply}
use Rattle.facility.specs.declared.command.Reply.TheVariants as reply
use Rattle.member_pool.specs.Heads.{HeadState}
use Rattle.member_intents.specs.declared.intent.Frames.{Frames}
use Rattle.member_trans.specs.declared.fate.Change.{Change}
use Rattle.member_trans.specs.declared.fate.Owner.{Owner}
use Rattle.member_trans.specs.declared.fate.Owner.TheVariants as owner
use Rattle.member_trans.specs.Trans.{TransState, TranState, place_of, newest_of, is_forward, tran_at, with_rollback, with_tran_of, with_undone, rollback_ended}
use Rattle.member_marks.specs.State.{MarksState, tran_of}
use Rattle.member_marks.specs.Claims.{is_agent, has_page, rollback_releasing, after_release_of, after_release_page, after_end_of}
use Rattle.member_marks.specs.Frames.{frame_in, is_placed, if_placed, after_registered, after_filled, after_written, after_marked, after_unregister}
use Rattle.member_marks.specs.Records.{fits_in, may_change, may_back, both_fit, may_commit, set_noted, sets_noted, body_noted, back_record, ended_record, back_noted, after_change, after_system, after_back, undone_of, undone_as, after_undo, after_commit}
use Rattle.member_needs.specs.declared.plans.Plan.{Plan}
use Rattle.member_needs.specs.declared.plans.Plan.TheVariants as plan
use Rattle.member_needs.specs.Records.{frame_of}
use Rattle.member_effects.specs.Kept.{Kept}
use Rattle.member_effects.specs.Changes.{put_page, patched_page, patched_nth, patched_frames, row_page, row_nth, system_record, changed_by, back_by, undrawn_after}
use Rattle.member_effects.specs.Closing.{released_after, page_released_after, purged_after, ended_after}
use Rattle.member_effects.specs.Frames.{read_after, written_after, unregistered_after}
use Rattle.refusal_causes.proofs.Either.{either}
use Rattle.refusal_causes.proofs.Known.{Claim, KnownIn, Quiet, QuietIn, quiet_known, unmade_known}

-- ---- transactions

with_rollback_quiet : (place : ℕ) (t : TransState) (at : Option ℕ) (x : TranState) → Quiet place t → Quiet place (with_rollback t at x)
with_rollback_quiet place t None x quiet = quiet
with_rollback_quiet place t (Some k) x quiet = quiet

with_tran_quiet : (place : ℕ) (t : TransState) (o : Owner) (x : TranState) → Quiet place t → Quiet place (with_tran_of t o x)
with_tran_quiet place t (owner.Slot slot) x quiet = quiet
with_tran_quiet place t (owner.Rollback id) x quiet = with_rollback_quiet place t (place_of t id) x quiet

ended_quiet : (place : ℕ) (t : TransState) (at : Option ℕ) → Quiet place t → Quiet place (rollback_ended t at)
ended_quiet place t None quiet = quiet
ended_quiet place t (Some k) quiet = quiet

sets_quiet : (place : ℕ) (t : TransState) (slot : ℕ) (ps : List Patch) → Quiet place t → Quiet place (sets_noted t slot ps)
sets_quiet place t slot [] quiet = quiet
sets_quiet place t slot (p ∷ ps) quiet = sets_quiet place (set_noted t slot p.page.set) slot ps quiet

body_quiet : (place : ℕ) (t : TransState) (slot : ℕ) (b : Body) → Quiet place t → Quiet place (body_noted t slot b)
body_quiet place t slot (body.RowChange c) quiet = quiet
body_quiet place t slot (body.Compensation c n) quiet = quiet
body_quiet place t slot (body.System ps) quiet = sets_quiet place t slot ps quiet
body_quiet place t slot body.Commit quiet = quiet
body_quiet place t slot body.Ended quiet = quiet
body_quiet place t slot (body.Checkpoint offset) quiet = quiet
body_quiet place t slot body.RestartEnd quiet = quiet

-- ---- claims that are given up

release_quiet : (place : ℕ) (s : MarksState) (o : Owner) → QuietIn place s → QuietIn place (after_release_of s o)
release_quiet place s (owner.Slot slot) quiet = either (QuietIn place) (is_agent s slot) _ _ quiet quiet
release_quiet place s (owner.Rollback id) quiet =
    either (QuietIn place) (is_some (rollback_releasing s id)) _ _ (with_rollback_quiet place s.trans (place_of s.trans id) _ quiet) quiet

end_quiet : (place : ℕ) (s : MarksState) (o : Owner) → QuietIn place s → QuietIn place (after_end_of s o)
end_quiet place s (owner.Slot slot) quiet = either (QuietIn place) (is_agent s slot) _ _ quiet quiet
end_quiet place s (owner.Rollback id) quiet = ended_quiet place s.trans (place_of s.trans id) quiet

page_quiet : (place : ℕ) (s : MarksState) (page : PageId) → QuietIn place s → QuietIn place (after_release_page s page)
page_quiet place s page quiet = either (QuietIn place) (has_page s page) _ _ quiet quiet

pub released_quiet : (place : ℕ) (s : MarksState) (o : Owner) (answer : Reply) → QuietIn place s → QuietIn place (released_after s o answer)
released_quiet place s o reply.Done quiet = release_quiet place s o quiet
released_quiet place s o _ quiet = quiet

pub page_released_quiet : (place : ℕ) (s : MarksState) (page : PageId) (answer : Reply) → QuietIn place s → QuietIn place (page_released_after s page answer)
page_released_quiet place s page reply.Done quiet = page_quiet place s page quiet
page_released_quiet place s page _ quiet = quiet

pub purged_quiet : (place : ℕ) (s : MarksState) (n : Name) (answer : Reply) → QuietIn place s → QuietIn place (purged_after s n answer)
purged_quiet place s n reply.Done quiet = quiet
purged_quiet place s n _ quiet = quiet

pub ended_after_quiet : (place : ℕ) (s : MarksState) (o : Owner) (answer : Reply) → QuietIn place s → QuietIn place (ended_after s o answer)
ended_after_quiet place s o reply.Done quiet = end_quiet place s o quiet
ended_after_quiet place s o _ quiet = quiet

pub after_end_quiet : (place : ℕ) (s : MarksState) (o : Owner) → QuietIn place s → QuietIn place (after_end_of s o)
after_end_quiet place s o quiet = end_quiet place s o quiet

-- ---- frames

placed_quiet : (place : ℕ) (s : MarksState) (at : ℕ) (h : HeadState) → QuietIn place s → QuietIn place (if_placed s at h)
placed_quiet place s at h quiet = either (QuietIn place) (is_placed s.heads at) _ _ quiet quiet

pub registered_quiet : (place : ℕ) (s : MarksState) (at : ℕ) (b : Bool) → QuietIn place s → QuietIn place (after_registered s at b)
registered_quiet place s at b quiet = placed_quiet place s at _ quiet

pub filled_quiet : (place : ℕ) (s : MarksState) (at : ℕ) (b : Bool) → QuietIn place s → QuietIn place (after_filled s at b)
filled_quiet place s at b quiet = placed_quiet place s at _ quiet

pub read_quiet : (place : ℕ) (s : MarksState) (at : ℕ) (answer : Reply) → QuietIn place s → QuietIn place (read_after s at answer)
read_quiet place s at reply.Found quiet = filled_quiet place (after_registered s at true) at true (registered_quiet place s at true quiet)
read_quiet place s at reply.NoData quiet =
    filled_quiet place (after_registered s at true) at (frame_in (after_registered s at true).heads at).changed (registered_quiet place s at true quiet)
read_quiet place s at _ quiet = quiet

pub written_quiet : (place : ℕ) (s : MarksState) (at : ℕ) (answer : Reply) → QuietIn place s → QuietIn place (written_after s at answer)
written_quiet place s at reply.Written quiet = placed_quiet place s at _ quiet
written_quiet place s at _ quiet = quiet

pub unregistered_quiet : (place : ℕ) (s : MarksState) (at : ℕ) (answer : Reply) → QuietIn place s → QuietIn place (unregistered_after s at answer)
unregistered_quiet place s at reply.Done quiet = either (QuietIn place) (ltb at (length s.heads.frames)) _ _ quiet quiet
unregistered_quiet place s at _ quiet = quiet

-- ---- changes

abbrev pub QuietKept : ℕ → Kept → Type 0
QuietKept place k = QuietIn place k.marks

put_quiet : (place : ℕ) (k : Kept) (at : ℕ) (id : PageId) (page : List ℕ) → QuietKept place k → QuietKept place (put_page k at id page)
put_quiet place k at id page quiet = placed_quiet place k.marks at _ quiet

patched_quiet : (place : ℕ) (k : Kept) (at : ℕ) (page : Option PageId) (ps : List Patch) (lrsn : ℕ) → QuietKept place k → QuietKept place (patched_page k at page ps lrsn)
patched_quiet place k at None ps lrsn quiet = quiet
patched_quiet place k at (Some id) ps lrsn quiet = either (QuietKept place) (ltb at (length k.pages)) _ _ (put_quiet place k at id _ quiet) quiet

nth_quiet : (place : ℕ) (k : Kept) (at : Option ℕ) (ps : List Patch) (lrsn : ℕ) → QuietKept place k → QuietKept place (patched_nth k at ps lrsn)
nth_quiet place k None ps lrsn quiet = quiet
nth_quiet place k (Some at) ps lrsn quiet = patched_quiet place k at (frame_in k.marks.heads at).page ps lrsn quiet

frames_quiet : (place : ℕ) (k : Kept) (frames : Frames) (ps : List Patch) (lrsn : ℕ) → QuietKept place k → QuietKept place (patched_frames k frames ps lrsn)
frames_quiet place k frames ps lrsn quiet =
    let a = nth_quiet place k (frame_of frames 0) ps lrsn quiet in
    let b = nth_quiet place (patched_nth k (frame_of frames 0) ps lrsn) (frame_of frames 1) ps lrsn a in
    nth_quiet place (patched_nth (patched_nth k (frame_of frames 0) ps lrsn) (frame_of frames 1) ps lrsn) (frame_of frames 2) ps lrsn b

row_page_quiet : (place : ℕ) (k : Kept) (at : ℕ) (page : Option PageId) (c : RowChange) (lrsn : ℕ) → QuietKept place k → QuietKept place (row_page k at page c lrsn)
row_page_quiet place k at None c lrsn quiet = quiet
row_page_quiet place k at (Some id) c lrsn quiet = either (QuietKept place) (ltb at (length k.pages)) _ _ (put_quiet place k at id _ quiet) quiet

row_quiet : (place : ℕ) (k : Kept) (at : Option ℕ) (c : RowChange) (lrsn : ℕ) → QuietKept place k → QuietKept place (row_nth k at c lrsn)
row_quiet place k None c lrsn quiet = quiet
row_quiet place k (Some at) c lrsn quiet = row_page_quiet place k at (frame_in k.marks.heads at).page c lrsn quiet

system_quiet : (place : ℕ) (s : MarksState) (slot : ℕ) (r : LogRecord) → QuietIn place s → QuietIn place (after_system s slot r)
system_quiet place s slot r quiet = either (QuietIn place) (fits_in s.log r) _ _ (body_quiet place s.trans slot r.body quiet) quiet

change_quiet : (place : ℕ) (s : MarksState) (slot lrsn : ℕ) (c : RowChange) → QuietIn place s → QuietIn place (after_change s slot lrsn c)
change_quiet place s slot lrsn c quiet = either (QuietIn place) (may_change s slot lrsn c) _ _ quiet quiet

pub changed_quiet : (place : ℕ) (k : Kept) (slot : ℕ) (frames : Frames) (p : Plan) (lrsn : ℕ) → QuietKept place k → QuietKept place (changed_by k slot frames p lrsn)
changed_quiet place k slot frames plan.None lrsn quiet = quiet
changed_quiet place k slot frames (plan.System ps) lrsn quiet =
    system_quiet place (patched_frames k frames ps lrsn).marks slot (system_record ps lrsn) (frames_quiet place k frames ps lrsn quiet)
changed_quiet place k slot frames (plan.Row c) lrsn quiet = change_quiet place (row_nth k (frame_of frames 0) c lrsn).marks slot lrsn c (row_quiet place k (frame_of frames 0) c lrsn quiet)
changed_quiet place k slot frames (plan.Back c) lrsn quiet = quiet
changed_quiet place k slot frames (plan.Fault page at) lrsn quiet = quiet

-- ---- changes that are taken back

noted_quiet : (place : ℕ) (t : TransState) (o : Owner) (it : TranState) (lrsn set : ℕ) → Quiet place t → Quiet place (back_noted t o it lrsn set)
noted_quiet place t o it lrsn set quiet =
    let u = with_tran_of t o (with_undone it lrsn) in
    with_tran_quiet place u o _ (with_tran_quiet place t o _ quiet)

back_quiet : (place : ℕ) (s : MarksState) (o : Owner) (lrsn set : ℕ) (r q : LogRecord) → QuietIn place s → QuietIn place (after_back s o lrsn set r q)
back_quiet place s o lrsn set r q quiet = either (QuietIn place) (both_fit s.log r q) _ _ (noted_quiet place s.trans o (tran_of s o) lrsn set quiet) quiet

undone_quiet : (place : ℕ) (s : MarksState) (o : Owner) (lrsn : ℕ) (newest : Option Change) → QuietIn place s → QuietIn place (undone_as s o lrsn newest)
undone_quiet place s o lrsn None quiet = quiet
undone_quiet place s o lrsn (Some it) quiet =
    either (QuietIn place) (may_back (tran_of s o) it) _ _ (back_quiet place s o lrsn (heap_set it.change.table) (back_record (tran_of s o) lrsn it) (ended_record (tran_of s o) lrsn) quiet) quiet

pub back_by_quiet : (place : ℕ) (k : Kept) (o : Owner) (at : ℕ) (p : Plan) (lrsn : ℕ) → QuietKept place k → QuietKept place (back_by k o at p lrsn)
back_by_quiet place k o at plan.None lrsn quiet = quiet
back_by_quiet place k o at (plan.System ps) lrsn quiet = quiet
back_by_quiet place k o at (plan.Row c) lrsn quiet = quiet
back_by_quiet place k o at (plan.Back c) lrsn quiet =
    undone_quiet place (row_nth k (Some at) c lrsn).marks o lrsn (newest_of (tran_of (row_nth k (Some at) c lrsn).marks o)) (row_quiet place k (Some at) c lrsn quiet)
back_by_quiet place k o at (plan.Fault page offset) lrsn quiet = quiet

pub commit_quiet : (place : ℕ) (s : MarksState) (slot lrsn : ℕ) → QuietIn place s → QuietIn place (after_commit s slot lrsn)
commit_quiet place s slot lrsn quiet =
    either (QuietIn place) (may_commit s slot lrsn) _ _ (either (Quiet place) (is_forward (tran_at s.trans slot).stage) _ _ quiet quiet) quiet

-- ---- where no number was drawn

-- it is known that the numbers are at their end, where that is answered
abbrev pub IsEndKnown : Claim → Reply → ℕ → Type 0
IsEndKnown K (reply.LrsnEnd at) place = (number : ℕ) → K number (refusal.LrsnEnd at) place
IsEndKnown K _ place = Unit {0}

pub undrawn_known : (K : Claim) (s : MarksState) (o : Owner) (answer : Reply) (place : ℕ) → IsEndKnown K answer place → QuietIn place s → KnownIn K place (undrawn_after s o answer place)
undrawn_known K s o (reply.Stale index) place ends quiet = quiet_known K place (after_registered s index false).trans (registered_quiet place s index false quiet)
undrawn_known K s o (reply.LrsnEnd at) place ends quiet = (ends, unmade_known K place s.trans quiet, quiet.2)
undrawn_known K s o _ place ends quiet = quiet_known K place s.trans quiet
