-- What is settled of the replies to commands, and of claims.
use Rattle.std.proofs.Common.{◌≡◌, ℕ, refl, Bool, true, false, List, [], ◌∙◌, Option, Some, None}
use Rattle.std.specs.Prelude.{if◌then◌else◌, is_some, nat_lt, length, slice_set}
use Rattle.std.proofs.lemmas.Bool.{cond_both}
use Rattle.std.proofs.lemmas.List.{length-set}
use Rattle.ds_base.specs.Pages.{heap_set}
use Rattle.ds_base.specs.declared.names.PageId.{PageId}
use Rattle.ds_base.specs.declared.names.TranId.{TranId}
use Rattle.ds_model.specs.declared.fate.Refusal.{Refusal}
use Rattle.ds_model.specs.declared.fate.Refusal.TheVariants as refusal
use Rattle.ds_model.specs.declared.lock.Name.{Name}
use Rattle.ds_model.specs.declared.lock.Name.TheVariants as name
use Rattle.ds_model.specs.declared.log.LogRecord.{LogRecord}
use Rattle.ds_model.specs.declared.log.RowChange.{RowChange}
use Rattle.lock_names.specs.declared.mode.Mode.{Mode}
use Rattle.lock_manager.specs.declared.claim.Ask.{Ask}
use Rattle.lock_manager.specs.declared.claim.Ask.TheVariants as ask
use Rattle.lock_manager.specs.Managers.{Book, ask_of, given, after_release, after_page_release, after_postponed_release, dropped, with_claims}
use Rattle.list_structure.specs.declared.query.CellAnswer.{CellAnswer}
use Rattle.list_structure.specs.declared.query.CellAnswer.TheVariants as cell_answer
use Rattle.list_structure.specs.declared.wait.Wait.{Wait}
use Rattle.facility.specs.declared.command.Reply.{Reply}
use Rattle.facility.specs.declared.command.Reply.TheVariants as reply
use Rattle.page_format.specs.declared.patch.Patch.{Patch}
use Rattle.write_order.specs.declared.rank.Rank.{Rank}
use Rattle.write_order.specs.Ranks.{rank_of}
use Rattle.heap_space.specs.Written.{written}
use Rattle.page_plans.specs.Rows.{after_row}
use Rattle.member_intents.specs.declared.intent.Frames.{Frames}
use Rattle.member_log.specs.Buffers.{after_put, after_force}
use Rattle.member_trans.specs.declared.fate.Change.{Change}
use Rattle.member_trans.specs.declared.fate.Owner.{Owner}
use Rattle.member_trans.specs.declared.fate.Owner.TheVariants as owner
use Rattle.member_trans.specs.Trans.{after_draw, after_end, after_offer, after_decide, newest_of, with_released}
use Rattle.member_pool.specs.Frames.{free_frame}
use Rattle.member_pool.specs.Heads.{HeadState, freed, head_of, marked, with_head, written as head_written}
use Rattle.member_marks.specs.Names.{without_name}
use Rattle.member_marks.specs.State.{MarksState, slot_id, slot_tran, tran_of, with_locks}
use Rattle.member_marks.specs.Claims.{PageEntered, after_end_of, after_release_of, after_release_page, entered, entered_as, has_page, has_spare, is_agent, is_for_agents, lock_place, may_claim, may_enter_page, noted_released, offered, rollback_releasing}
use Rattle.member_marks.specs.Frames.{frame_in, is_placed, with_registered, with_filled, after_registered, after_filled, after_written, after_marked, after_unregister}
use Rattle.member_marks.specs.Records.{after_append, after_back, after_change, after_commit, after_system, after_undo, back_noted, back_record, both_fit, commit_record, ended_record, fits_in, may_back, may_change, may_commit, row_noted, row_record, sets_noted, undone_as}
use Rattle.member_effects.specs.Given.{Plan}
use Rattle.member_effects.specs.Given.plan_variants as plan
use Rattle.member_effects.specs.Given.{frame_of}
use Rattle.member_effects.specs.declared.answers.Said.{Said}
use Rattle.member_effects.specs.declared.answers.Said.TheVariants as said
use Rattle.member_effects.specs.declared.told.Told.{Told}
use Rattle.member_effects.specs.Answers.{found_after, in_the_way_after}
use Rattle.member_effects.specs.Changes.{system_record, patched_page, patched_nth, patched_frames, row_page, row_frame, row_nth, changed_by, back_by, undrawn_after, drawn_after, undone_after, committed_after, bytes_at, put_page}
use Rattle.member_effects.specs.Claims.{Claims, Enters, EntersPage, agent_entered, refused_after}
use Rattle.member_effects.specs.Closing.{ended_after, page_released_after, purged_after, released_after}
use Rattle.member_effects.specs.Cycles.{RefusesCycle, cycle_after}
use Rattle.member_effects.specs.Frames.{read_after, valid_after, tested_after, written_after, unregistered_after, full_at}
use Rattle.member_effects.specs.Kept as bytes
use Rattle.rooms_stay.specs.Rooms.{SameRoom}
use Rattle.rooms_stay.proofs.Room.{moved_to, if_so, itself, of_both, of_heads, of_locks, of_log, of_names, of_trans, on}
use Rattle.rooms_stay.proofs.Slots.{many_back, many_decided, many_drawn, many_ended, many_of, many_row, many_sets}

-- ---- refusals
pub of_offer : (s : MarksState) (o : Owner) (r : Refusal) (place : ℕ) → SameRoom s (offered s o r place)
of_offer s o r place = of_trans s (after_offer s.trans o r place) refl

in_the_way : (s : MarksState) (o : Owner) (n : Name) (a : CellAnswer) (event : ℕ) → SameRoom s (in_the_way_after s o n a event)
in_the_way s o n cell_answer.Clean event = itself s
in_the_way s o n (cell_answer.Conflict by) event = of_offer s o (refusal.Held n by) event
in_the_way s o n (cell_answer.Postponed m) event = of_offer s o (refusal.Retained n m) event

pub found : (s : MarksState) (o : Owner) (n : Name) (x : Said) → SameRoom s (found_after s o n x)
found s o n said.Clean = itself s
found s o n said.Empty = itself s
found s o n said.Open = itself s
found s o n (said.InTheWay a event) = in_the_way s o n a event

pub cycle : (s t : MarksState) (waits : List Wait) (slots place : ℕ) (x : Told) → RefusesCycle s waits slots place x t → SameRoom s t
cycle s t waits slots place x r = by r.0 r.3
  where
    by : (found : Option (ℕ × List TranId)) → t ≡ cycle_after s place found → SameRoom s t
    by None e = moved_to s t s e (itself s)
    by (Some x) e = moved_to s t (offered s (owner.Slot x.0) (refusal.Deadlock x.1) place) e (of_offer s (owner.Slot x.0) (refusal.Deadlock x.1) place)

-- ---- frames
placed : (s : MarksState) (at : ℕ) (h : HeadState) → length h.frames ≡ length s.heads.frames → SameRoom s (if is_placed s.heads at then record s { heads = h } else s)
placed s at h e = if_so s (record s { heads = h }) s (is_placed s.heads at) (of_heads s h e) (itself s)

pub registered : (s : MarksState) (at : ℕ) (b : Bool) → SameRoom s (after_registered s at b)
registered s at b = placed s at (with_registered s.heads at b) (length-set s.heads.frames at (record (head_of s.heads at) { registered = b }))

pub filled : (s : MarksState) (at : ℕ) (b : Bool) → SameRoom s (after_filled s at b)
filled s at b = placed s at (with_filled s.heads at b) (length-set s.heads.frames at (record (head_of s.heads at) { filled = b }))

write : (s : MarksState) (at : ℕ) → SameRoom s (after_written s at)
write s at =
    let h = head_written s.heads at in
    placed s at (with_registered h at true) (length-set h.frames at (record (head_of h at) { registered = true }) ∙ length-set s.heads.frames at (record (head_of s.heads at) { changed = false }))

mark_length : (h : HeadState) (at : ℕ) (rank : Rank) → length (marked h at rank).frames ≡ length h.frames
mark_length h at rank = cond_both (head_of h at).changed h (with_head h at (record (head_of h at) { changed = true; rank = rank })) (λ (z : HeadState). length z.frames ≡ length h.frames)
    (λ e. refl) (λ e. length-set h.frames at (record (head_of h at) { changed = true; rank = rank }))

mark : (s : MarksState) (at : ℕ) (rank : Rank) → SameRoom s (after_marked s at rank)
mark s at rank = placed s at (marked s.heads at rank) (mark_length s.heads at rank)

free : (s : MarksState) (at : ℕ) → SameRoom s (after_unregister s at)
free s at = if_so s (record s { heads = freed s.heads at }) s (nat_lt at (length s.heads.frames)) (of_heads s (freed s.heads at) (length-set s.heads.frames at free_frame)) (itself s)

valid : (s : MarksState) (slot place : ℕ) (full : Option (ℕ × ℕ)) → SameRoom s (valid_after s slot place full)
valid s slot place None = itself s
valid s slot place (Some full) = of_offer s (owner.Slot slot) (refusal.SpaceFull full.0 full.1) place

pub read : (s : MarksState) (at : ℕ) (answer : Reply) → SameRoom s (read_after s at answer)
read s at (reply.Granted version) = itself s
read s at (reply.Retained by) = itself s
read s at (reply.RecordsFull limit) = itself s
read s at (reply.Contention share exclusive version) = itself s
read s at (reply.Moved version) = itself s
read s at (reply.RetainedLock name mode) = itself s
read s at reply.Done = itself s
read s at reply.Nothing = itself s
read s at reply.Found = on s (after_registered s at true) (after_filled (after_registered s at true) at true) (registered s at true) (filled (after_registered s at true) at true)
read s at reply.NoData = on s (after_registered s at true) (after_filled (after_registered s at true) at (frame_in (after_registered s at true).heads at).changed) (registered s at true) (filled (after_registered s at true) at (frame_in (after_registered s at true).heads at).changed)
read s at reply.CacheFull = itself s
read s at reply.Lost = itself s
read s at reply.Written = itself s
read s at reply.Valid = itself s
read s at reply.Invalid = itself s
read s at reply.Taken = itself s
read s at reply.NotChanged = itself s
read s at (reply.Locked by) = itself s
read s at reply.NotHeld = itself s
read s at (reply.ChangedPage page) = itself s
read s at (reply.Query query) = itself s
read s at reply.Gone = itself s
read s at reply.Cells = itself s
read s at reply.Waits = itself s
read s at reply.Raised = itself s
read s at reply.NotRaised = itself s
read s at (reply.Status status) = itself s
read s at reply.NotLost = itself s
read s at (reply.ClaimTaken by) = itself s
read s at reply.Claimed = itself s
read s at (reply.Drawn lrsn) = itself s
read s at (reply.Stale index) = itself s
read s at (reply.LrsnEnd end) = itself s

pub tested : (s : MarksState) (pages : List (List ℕ)) (at slot : ℕ) (gives : Option ℕ) (most : ℕ) (answer : Reply) (place : ℕ) → SameRoom s (tested_after s pages at slot gives most answer place)
tested s pages at slot gives most (reply.Granted version) place = registered s at false
tested s pages at slot gives most (reply.Retained by) place = registered s at false
tested s pages at slot gives most (reply.RecordsFull limit) place = registered s at false
tested s pages at slot gives most (reply.Contention share exclusive version) place = registered s at false
tested s pages at slot gives most (reply.Moved version) place = registered s at false
tested s pages at slot gives most (reply.RetainedLock name mode) place = registered s at false
tested s pages at slot gives most reply.Done place = registered s at false
tested s pages at slot gives most reply.Nothing place = registered s at false
tested s pages at slot gives most reply.Found place = registered s at false
tested s pages at slot gives most reply.NoData place = registered s at false
tested s pages at slot gives most reply.CacheFull place = registered s at false
tested s pages at slot gives most reply.Lost place = registered s at false
tested s pages at slot gives most reply.Written place = registered s at false
tested s pages at slot gives most reply.Valid place = on s (after_registered s at true) (valid_after (after_registered s at true) slot place (full_at pages at gives most)) (registered s at true) (valid (after_registered s at true) slot place (full_at pages at gives most))
tested s pages at slot gives most reply.Invalid place = registered s at false
tested s pages at slot gives most reply.Taken place = registered s at false
tested s pages at slot gives most reply.NotChanged place = registered s at false
tested s pages at slot gives most (reply.Locked by) place = registered s at false
tested s pages at slot gives most reply.NotHeld place = registered s at false
tested s pages at slot gives most (reply.ChangedPage page) place = registered s at false
tested s pages at slot gives most (reply.Query query) place = registered s at false
tested s pages at slot gives most reply.Gone place = registered s at false
tested s pages at slot gives most reply.Cells place = registered s at false
tested s pages at slot gives most reply.Waits place = registered s at false
tested s pages at slot gives most reply.Raised place = registered s at false
tested s pages at slot gives most reply.NotRaised place = registered s at false
tested s pages at slot gives most (reply.Status status) place = registered s at false
tested s pages at slot gives most reply.NotLost place = registered s at false
tested s pages at slot gives most (reply.ClaimTaken by) place = registered s at false
tested s pages at slot gives most reply.Claimed place = registered s at false
tested s pages at slot gives most (reply.Drawn lrsn) place = registered s at false
tested s pages at slot gives most (reply.Stale index) place = registered s at false
tested s pages at slot gives most (reply.LrsnEnd end) place = registered s at false

pub writes : (s : MarksState) (at : ℕ) (answer : Reply) → SameRoom s (written_after s at answer)
writes s at (reply.Granted version) = itself s
writes s at (reply.Retained by) = itself s
writes s at (reply.RecordsFull limit) = itself s
writes s at (reply.Contention share exclusive version) = itself s
writes s at (reply.Moved version) = itself s
writes s at (reply.RetainedLock name mode) = itself s
writes s at reply.Done = itself s
writes s at reply.Nothing = itself s
writes s at reply.Found = itself s
writes s at reply.NoData = itself s
writes s at reply.CacheFull = itself s
writes s at reply.Lost = itself s
writes s at reply.Written = write s at
writes s at reply.Valid = itself s
writes s at reply.Invalid = itself s
writes s at reply.Taken = itself s
writes s at reply.NotChanged = itself s
writes s at (reply.Locked by) = itself s
writes s at reply.NotHeld = itself s
writes s at (reply.ChangedPage page) = itself s
writes s at (reply.Query query) = itself s
writes s at reply.Gone = itself s
writes s at reply.Cells = itself s
writes s at reply.Waits = itself s
writes s at reply.Raised = itself s
writes s at reply.NotRaised = itself s
writes s at (reply.Status status) = itself s
writes s at reply.NotLost = itself s
writes s at (reply.ClaimTaken by) = itself s
writes s at reply.Claimed = itself s
writes s at (reply.Drawn lrsn) = itself s
writes s at (reply.Stale index) = itself s
writes s at (reply.LrsnEnd end) = itself s

pub frees : (s : MarksState) (at : ℕ) (answer : Reply) → SameRoom s (unregistered_after s at answer)
frees s at (reply.Granted version) = itself s
frees s at (reply.Retained by) = itself s
frees s at (reply.RecordsFull limit) = itself s
frees s at (reply.Contention share exclusive version) = itself s
frees s at (reply.Moved version) = itself s
frees s at (reply.RetainedLock name mode) = itself s
frees s at reply.Done = free s at
frees s at reply.Nothing = itself s
frees s at reply.Found = itself s
frees s at reply.NoData = itself s
frees s at reply.CacheFull = itself s
frees s at reply.Lost = itself s
frees s at reply.Written = itself s
frees s at reply.Valid = itself s
frees s at reply.Invalid = itself s
frees s at reply.Taken = itself s
frees s at reply.NotChanged = itself s
frees s at (reply.Locked by) = itself s
frees s at reply.NotHeld = itself s
frees s at (reply.ChangedPage page) = itself s
frees s at (reply.Query query) = itself s
frees s at reply.Gone = itself s
frees s at reply.Cells = itself s
frees s at reply.Waits = itself s
frees s at reply.Raised = itself s
frees s at reply.NotRaised = itself s
frees s at (reply.Status status) = itself s
frees s at reply.NotLost = itself s
frees s at (reply.ClaimTaken by) = itself s
frees s at reply.Claimed = itself s
frees s at (reply.Drawn lrsn) = itself s
frees s at (reply.Stale index) = itself s
frees s at (reply.LrsnEnd end) = itself s

pub purged : (s : MarksState) (n : Name) (answer : Reply) → SameRoom s (purged_after s n answer)
purged s n (reply.Granted version) = itself s
purged s n (reply.Retained by) = itself s
purged s n (reply.RecordsFull limit) = itself s
purged s n (reply.Contention share exclusive version) = itself s
purged s n (reply.Moved version) = itself s
purged s n (reply.RetainedLock name mode) = itself s
purged s n reply.Done = of_names s (without_name s.kept n)
purged s n reply.Nothing = itself s
purged s n reply.Found = itself s
purged s n reply.NoData = itself s
purged s n reply.CacheFull = itself s
purged s n reply.Lost = itself s
purged s n reply.Written = itself s
purged s n reply.Valid = itself s
purged s n reply.Invalid = itself s
purged s n reply.Taken = itself s
purged s n reply.NotChanged = itself s
purged s n (reply.Locked by) = itself s
purged s n reply.NotHeld = itself s
purged s n (reply.ChangedPage page) = itself s
purged s n (reply.Query query) = itself s
purged s n reply.Gone = itself s
purged s n reply.Cells = itself s
purged s n reply.Waits = itself s
purged s n reply.Raised = itself s
purged s n reply.NotRaised = itself s
purged s n (reply.Status status) = itself s
purged s n reply.NotLost = itself s
purged s n (reply.ClaimTaken by) = itself s
purged s n reply.Claimed = itself s
purged s n (reply.Drawn lrsn) = itself s
purged s n (reply.Stale index) = itself s
purged s n (reply.LrsnEnd end) = itself s

-- ---- records
change : (s : MarksState) (slot lrsn : ℕ) (c : RowChange) → SameRoom s (after_change s slot lrsn c)
change s slot lrsn c =
    if_so s (record s { log = after_put s.log (row_record (slot_tran s slot) lrsn c); trans = row_noted s.trans slot lrsn c }) s (may_change s slot lrsn c)
    (of_log s (after_put s.log (row_record (slot_tran s slot) lrsn c)) (row_noted s.trans slot lrsn c) (many_row s.trans slot lrsn c)) (itself s)

system : (s : MarksState) (slot : ℕ) (ps : List Patch) (lrsn : ℕ) → SameRoom s (after_system s slot (system_record ps lrsn))
system s slot ps lrsn =
    if_so s (record s { log = after_put s.log (system_record ps lrsn); trans = sets_noted s.trans slot ps }) s (fits_in s.log (system_record ps lrsn))
    (of_log s (after_put s.log (system_record ps lrsn)) (sets_noted s.trans slot ps) (many_sets s.trans slot ps)) (itself s)

back : (s : MarksState) (o : Owner) (lrsn set : ℕ) (r q : LogRecord) → SameRoom s (after_back s o lrsn set r q)
back s o lrsn set r q = cond_both (both_fit s.log r q) _ s (λ z. SameRoom s z) (λ e. of_log s _ (back_noted s.trans o (tran_of s o) lrsn set) (many_back s.trans o (tran_of s o) lrsn set)) (λ e. itself s)

undo_as : (s : MarksState) (o : Owner) (lrsn : ℕ) (x : Option Change) → SameRoom s (undone_as s o lrsn x)
undo_as s o lrsn None = itself s
undo_as s o lrsn (Some it) = cond_both (may_back (tran_of s o) it) _ s (λ z. SameRoom s z)
    (λ e. back s o lrsn (heap_set it.change.table) (back_record (tran_of s o) lrsn it) (ended_record (tran_of s o) lrsn)) (λ e. itself s)

undo : (s : MarksState) (o : Owner) (lrsn : ℕ) → SameRoom s (after_undo s o lrsn)
undo s o lrsn = undo_as s o lrsn (newest_of (tran_of s o))

commit : (s : MarksState) (slot lrsn : ℕ) → SameRoom s (after_commit s slot lrsn)
commit s slot lrsn =
    if_so s (record s { log = after_put s.log (commit_record (slot_tran s slot) lrsn); trans = after_draw s.trans slot }) s (may_commit s slot lrsn)
    (of_log s (after_put s.log (commit_record (slot_tran s slot) lrsn)) (after_draw s.trans slot) (many_drawn s.trans slot)) (itself s)

pub append : (s : MarksState) → SameRoom s (after_append s)
append s = of_log s (after_force s.log) (after_decide s.trans) (many_decided s.trans.slots s.trans.commits)

-- ---- changes
abbrev Same : bytes.Kept → bytes.Kept → Type 0
Same k l = SameRoom k.marks l.marks

patched_at : (k : bytes.Kept) (at : ℕ) (o : Option PageId) (ps : List Patch) (lrsn : ℕ) → Same k (patched_page k at o ps lrsn)
patched_at k at None ps lrsn = itself k.marks
patched_at k at (Some id) ps lrsn = cond_both (nat_lt at (length k.pages)) (put_page k at id (written id lrsn ps (bytes_at k.pages at))) k (λ z. Same k z)
    (λ e. mark k.marks at (rank_of id (bytes_at (slice_set k.pages at (written id lrsn ps (bytes_at k.pages at))) at))) (λ e. itself k.marks)

patched_in : (k : bytes.Kept) (o : Option ℕ) (ps : List Patch) (lrsn : ℕ) → Same k (patched_nth k o ps lrsn)
patched_in k None ps lrsn = itself k.marks
patched_in k (Some at) ps lrsn = patched_at k at (frame_in k.marks.heads at).page ps lrsn

patched_all : (k : bytes.Kept) (frames : Frames) (ps : List Patch) (lrsn : ℕ) → Same k (patched_frames k frames ps lrsn)
patched_all k frames ps lrsn =
    let one = patched_nth k (frame_of frames 0) ps lrsn in
    let two = patched_nth one (frame_of frames 1) ps lrsn in
    let last = patched_nth two (frame_of frames 2) ps lrsn in
    on k.marks two.marks last.marks (on k.marks one.marks two.marks (patched_in k (frame_of frames 0) ps lrsn) (patched_in one (frame_of frames 1) ps lrsn)) (patched_in two (frame_of frames 2) ps lrsn)

row_at : (k : bytes.Kept) (at : ℕ) (o : Option PageId) (c : RowChange) (lrsn : ℕ) → Same k (row_page k at o c lrsn)
row_at k at None c lrsn = itself k.marks
row_at k at (Some id) c lrsn = cond_both (nat_lt at (length k.pages)) (put_page k at id (after_row lrsn c (bytes_at k.pages at))) k (λ z. Same k z)
    (λ e. mark k.marks at (rank_of id (bytes_at (slice_set k.pages at (after_row lrsn c (bytes_at k.pages at))) at))) (λ e. itself k.marks)

row_in : (k : bytes.Kept) (o : Option ℕ) (c : RowChange) (lrsn : ℕ) → Same k (row_nth k o c lrsn)
row_in k None c lrsn = itself k.marks
row_in k (Some at) c lrsn = row_at k at (frame_in k.marks.heads at).page c lrsn

changed : (k : bytes.Kept) (slot : ℕ) (frames : Frames) (p : Plan) (lrsn : ℕ) → Same k (changed_by k slot frames p lrsn)
changed k slot frames plan.None lrsn = itself k.marks
changed k slot frames (plan.System ps) lrsn = on k.marks _ _ (patched_all k frames ps lrsn) (system (patched_frames k frames ps lrsn).marks slot ps lrsn)
changed k slot frames (plan.Row c) lrsn = on k.marks _ _ (row_in k (frame_of frames 0) c lrsn) (change (row_nth k (frame_of frames 0) c lrsn).marks slot lrsn c)
changed k slot frames (plan.Back c) lrsn = itself k.marks
changed k slot frames (plan.Fault page at) lrsn = itself k.marks

taken_back : (k : bytes.Kept) (o : Owner) (at : ℕ) (p : Plan) (lrsn : ℕ) → Same k (back_by k o at p lrsn)
taken_back k o at plan.None lrsn = itself k.marks
taken_back k o at (plan.System ps) lrsn = itself k.marks
taken_back k o at (plan.Row c) lrsn = itself k.marks
taken_back k o at (plan.Back c) lrsn = on k.marks _ _ (row_at k at (frame_in k.marks.heads at).page c lrsn) (undo (row_frame k at c lrsn).marks o lrsn)
taken_back k o at (plan.Fault page offset) lrsn = itself k.marks

undrawn : (s : MarksState) (o : Owner) (answer : Reply) (place : ℕ) → SameRoom s (undrawn_after s o answer place)
undrawn s o (reply.Granted version) place = itself s
undrawn s o (reply.Retained by) place = itself s
undrawn s o (reply.RecordsFull limit) place = itself s
undrawn s o (reply.Contention share exclusive version) place = itself s
undrawn s o (reply.Moved version) place = itself s
undrawn s o (reply.RetainedLock name mode) place = itself s
undrawn s o reply.Done place = itself s
undrawn s o reply.Nothing place = itself s
undrawn s o reply.Found place = itself s
undrawn s o reply.NoData place = itself s
undrawn s o reply.CacheFull place = itself s
undrawn s o reply.Lost place = itself s
undrawn s o reply.Written place = itself s
undrawn s o reply.Valid place = itself s
undrawn s o reply.Invalid place = itself s
undrawn s o reply.Taken place = itself s
undrawn s o reply.NotChanged place = itself s
undrawn s o (reply.Locked by) place = itself s
undrawn s o reply.NotHeld place = itself s
undrawn s o (reply.ChangedPage page) place = itself s
undrawn s o (reply.Query query) place = itself s
undrawn s o reply.Gone place = itself s
undrawn s o reply.Cells place = itself s
undrawn s o reply.Waits place = itself s
undrawn s o reply.Raised place = itself s
undrawn s o reply.NotRaised place = itself s
undrawn s o (reply.Status status) place = itself s
undrawn s o reply.NotLost place = itself s
undrawn s o (reply.ClaimTaken by) place = itself s
undrawn s o reply.Claimed place = itself s
undrawn s o (reply.Drawn lrsn) place = itself s
undrawn s o (reply.Stale index) place = registered s index false
undrawn s o (reply.LrsnEnd end) place = of_offer s o (refusal.LrsnEnd end) place

pub draws : (k : bytes.Kept) (slot : ℕ) (frames : Frames) (p : Plan) (answer : Reply) (place : ℕ) → Same k (drawn_after k slot frames p answer place)
draws k slot frames p (reply.Granted version) place = undrawn k.marks (owner.Slot slot) (reply.Granted version) place
draws k slot frames p (reply.Retained by) place = undrawn k.marks (owner.Slot slot) (reply.Retained by) place
draws k slot frames p (reply.RecordsFull limit) place = undrawn k.marks (owner.Slot slot) (reply.RecordsFull limit) place
draws k slot frames p (reply.Contention share exclusive version) place = undrawn k.marks (owner.Slot slot) (reply.Contention share exclusive version) place
draws k slot frames p (reply.Moved version) place = undrawn k.marks (owner.Slot slot) (reply.Moved version) place
draws k slot frames p (reply.RetainedLock name mode) place = undrawn k.marks (owner.Slot slot) (reply.RetainedLock name mode) place
draws k slot frames p reply.Done place = undrawn k.marks (owner.Slot slot) reply.Done place
draws k slot frames p reply.Nothing place = undrawn k.marks (owner.Slot slot) reply.Nothing place
draws k slot frames p reply.Found place = undrawn k.marks (owner.Slot slot) reply.Found place
draws k slot frames p reply.NoData place = undrawn k.marks (owner.Slot slot) reply.NoData place
draws k slot frames p reply.CacheFull place = undrawn k.marks (owner.Slot slot) reply.CacheFull place
draws k slot frames p reply.Lost place = undrawn k.marks (owner.Slot slot) reply.Lost place
draws k slot frames p reply.Written place = undrawn k.marks (owner.Slot slot) reply.Written place
draws k slot frames p reply.Valid place = undrawn k.marks (owner.Slot slot) reply.Valid place
draws k slot frames p reply.Invalid place = undrawn k.marks (owner.Slot slot) reply.Invalid place
draws k slot frames p reply.Taken place = undrawn k.marks (owner.Slot slot) reply.Taken place
draws k slot frames p reply.NotChanged place = undrawn k.marks (owner.Slot slot) reply.NotChanged place
draws k slot frames p (reply.Locked by) place = undrawn k.marks (owner.Slot slot) (reply.Locked by) place
draws k slot frames p reply.NotHeld place = undrawn k.marks (owner.Slot slot) reply.NotHeld place
draws k slot frames p (reply.ChangedPage page) place = undrawn k.marks (owner.Slot slot) (reply.ChangedPage page) place
draws k slot frames p (reply.Query query) place = undrawn k.marks (owner.Slot slot) (reply.Query query) place
draws k slot frames p reply.Gone place = undrawn k.marks (owner.Slot slot) reply.Gone place
draws k slot frames p reply.Cells place = undrawn k.marks (owner.Slot slot) reply.Cells place
draws k slot frames p reply.Waits place = undrawn k.marks (owner.Slot slot) reply.Waits place
draws k slot frames p reply.Raised place = undrawn k.marks (owner.Slot slot) reply.Raised place
draws k slot frames p reply.NotRaised place = undrawn k.marks (owner.Slot slot) reply.NotRaised place
draws k slot frames p (reply.Status status) place = undrawn k.marks (owner.Slot slot) (reply.Status status) place
draws k slot frames p reply.NotLost place = undrawn k.marks (owner.Slot slot) reply.NotLost place
draws k slot frames p (reply.ClaimTaken by) place = undrawn k.marks (owner.Slot slot) (reply.ClaimTaken by) place
draws k slot frames p reply.Claimed place = undrawn k.marks (owner.Slot slot) reply.Claimed place
draws k slot frames p (reply.Drawn lrsn) place = changed k slot frames p lrsn
draws k slot frames p (reply.Stale index) place = undrawn k.marks (owner.Slot slot) (reply.Stale index) place
draws k slot frames p (reply.LrsnEnd end) place = undrawn k.marks (owner.Slot slot) (reply.LrsnEnd end) place

pub undoes : (k : bytes.Kept) (o : Owner) (at : ℕ) (p : Plan) (answer : Reply) (place : ℕ) → Same k (undone_after k o at p answer place)
undoes k o at p (reply.Granted version) place = undrawn k.marks o (reply.Granted version) place
undoes k o at p (reply.Retained by) place = undrawn k.marks o (reply.Retained by) place
undoes k o at p (reply.RecordsFull limit) place = undrawn k.marks o (reply.RecordsFull limit) place
undoes k o at p (reply.Contention share exclusive version) place = undrawn k.marks o (reply.Contention share exclusive version) place
undoes k o at p (reply.Moved version) place = undrawn k.marks o (reply.Moved version) place
undoes k o at p (reply.RetainedLock name mode) place = undrawn k.marks o (reply.RetainedLock name mode) place
undoes k o at p reply.Done place = undrawn k.marks o reply.Done place
undoes k o at p reply.Nothing place = undrawn k.marks o reply.Nothing place
undoes k o at p reply.Found place = undrawn k.marks o reply.Found place
undoes k o at p reply.NoData place = undrawn k.marks o reply.NoData place
undoes k o at p reply.CacheFull place = undrawn k.marks o reply.CacheFull place
undoes k o at p reply.Lost place = undrawn k.marks o reply.Lost place
undoes k o at p reply.Written place = undrawn k.marks o reply.Written place
undoes k o at p reply.Valid place = undrawn k.marks o reply.Valid place
undoes k o at p reply.Invalid place = undrawn k.marks o reply.Invalid place
undoes k o at p reply.Taken place = undrawn k.marks o reply.Taken place
undoes k o at p reply.NotChanged place = undrawn k.marks o reply.NotChanged place
undoes k o at p (reply.Locked by) place = undrawn k.marks o (reply.Locked by) place
undoes k o at p reply.NotHeld place = undrawn k.marks o reply.NotHeld place
undoes k o at p (reply.ChangedPage page) place = undrawn k.marks o (reply.ChangedPage page) place
undoes k o at p (reply.Query query) place = undrawn k.marks o (reply.Query query) place
undoes k o at p reply.Gone place = undrawn k.marks o reply.Gone place
undoes k o at p reply.Cells place = undrawn k.marks o reply.Cells place
undoes k o at p reply.Waits place = undrawn k.marks o reply.Waits place
undoes k o at p reply.Raised place = undrawn k.marks o reply.Raised place
undoes k o at p reply.NotRaised place = undrawn k.marks o reply.NotRaised place
undoes k o at p (reply.Status status) place = undrawn k.marks o (reply.Status status) place
undoes k o at p reply.NotLost place = undrawn k.marks o reply.NotLost place
undoes k o at p (reply.ClaimTaken by) place = undrawn k.marks o (reply.ClaimTaken by) place
undoes k o at p reply.Claimed place = undrawn k.marks o reply.Claimed place
undoes k o at p (reply.Drawn lrsn) place = taken_back k o at p lrsn
undoes k o at p (reply.Stale index) place = undrawn k.marks o (reply.Stale index) place
undoes k o at p (reply.LrsnEnd end) place = undrawn k.marks o (reply.LrsnEnd end) place

pub commits : (s : MarksState) (slot : ℕ) (answer : Reply) (place : ℕ) → SameRoom s (committed_after s slot answer place)
commits s slot (reply.Granted version) place = undrawn s (owner.Slot slot) (reply.Granted version) place
commits s slot (reply.Retained by) place = undrawn s (owner.Slot slot) (reply.Retained by) place
commits s slot (reply.RecordsFull limit) place = undrawn s (owner.Slot slot) (reply.RecordsFull limit) place
commits s slot (reply.Contention share exclusive version) place = undrawn s (owner.Slot slot) (reply.Contention share exclusive version) place
commits s slot (reply.Moved version) place = undrawn s (owner.Slot slot) (reply.Moved version) place
commits s slot (reply.RetainedLock name mode) place = undrawn s (owner.Slot slot) (reply.RetainedLock name mode) place
commits s slot reply.Done place = undrawn s (owner.Slot slot) reply.Done place
commits s slot reply.Nothing place = undrawn s (owner.Slot slot) reply.Nothing place
commits s slot reply.Found place = undrawn s (owner.Slot slot) reply.Found place
commits s slot reply.NoData place = undrawn s (owner.Slot slot) reply.NoData place
commits s slot reply.CacheFull place = undrawn s (owner.Slot slot) reply.CacheFull place
commits s slot reply.Lost place = undrawn s (owner.Slot slot) reply.Lost place
commits s slot reply.Written place = undrawn s (owner.Slot slot) reply.Written place
commits s slot reply.Valid place = undrawn s (owner.Slot slot) reply.Valid place
commits s slot reply.Invalid place = undrawn s (owner.Slot slot) reply.Invalid place
commits s slot reply.Taken place = undrawn s (owner.Slot slot) reply.Taken place
commits s slot reply.NotChanged place = undrawn s (owner.Slot slot) reply.NotChanged place
commits s slot (reply.Locked by) place = undrawn s (owner.Slot slot) (reply.Locked by) place
commits s slot reply.NotHeld place = undrawn s (owner.Slot slot) reply.NotHeld place
commits s slot (reply.ChangedPage page) place = undrawn s (owner.Slot slot) (reply.ChangedPage page) place
commits s slot (reply.Query query) place = undrawn s (owner.Slot slot) (reply.Query query) place
commits s slot reply.Gone place = undrawn s (owner.Slot slot) reply.Gone place
commits s slot reply.Cells place = undrawn s (owner.Slot slot) reply.Cells place
commits s slot reply.Waits place = undrawn s (owner.Slot slot) reply.Waits place
commits s slot reply.Raised place = undrawn s (owner.Slot slot) reply.Raised place
commits s slot reply.NotRaised place = undrawn s (owner.Slot slot) reply.NotRaised place
commits s slot (reply.Status status) place = undrawn s (owner.Slot slot) (reply.Status status) place
commits s slot reply.NotLost place = undrawn s (owner.Slot slot) reply.NotLost place
commits s slot (reply.ClaimTaken by) place = undrawn s (owner.Slot slot) (reply.ClaimTaken by) place
commits s slot reply.Claimed place = undrawn s (owner.Slot slot) reply.Claimed place
commits s slot (reply.Drawn lrsn) place = commit s slot lrsn
commits s slot (reply.Stale index) place = undrawn s (owner.Slot slot) (reply.Stale index) place
commits s slot (reply.LrsnEnd end) place = undrawn s (owner.Slot slot) (reply.LrsnEnd end) place

-- ---- a lock is taken
entering : (s : MarksState) (slot : ℕ) (n : Name) (m : Mode) (place : ℕ) → SameRoom s (entered s slot n m place)
entering s slot n m place = cond_both (has_spare s) (with_locks s (given s.locks slot n m)) (offered s (owner.Slot slot) refusal.Memory place) (λ z. SameRoom s z)
    (λ e. of_locks s (given s.locks slot n m)) (λ e. of_offer s (owner.Slot slot) refusal.Memory place)

entered_by : (s : MarksState) (slot : ℕ) (n : Name) (m : Mode) (place : ℕ) (a : Ask) → SameRoom s (entered_as s slot n m place a)
entered_by s slot n m place ask.Have = entering s slot n m place
entered_by s slot n m place (ask.Conflict by) = of_offer s (owner.Slot slot) (refusal.Held n (slot_id s by)) place
entered_by s slot n m place (ask.Postponed by) = of_offer s (owner.Slot slot) (refusal.Retained n by) place
entered_by s slot n m place ask.Local = entering s slot n m place
entered_by s slot n m place (ask.Facility more) = entering s slot n m place

agent_enters : (s : MarksState) (o : Owner) (n : Name) (m : Mode) (place : ℕ) → SameRoom s (agent_entered s o n m place)
agent_enters s (owner.Slot slot) n m place = if_so s (entered_as s slot n m place (ask_of s.locks slot n m)) s (may_claim s slot n) (entered_by s slot n m place (ask_of s.locks slot n m)) (itself s)
agent_enters s (owner.Rollback id) n m place = itself s

page_enters : (s t : MarksState) (p : PageId) (b : Bool) → PageEntered b s p t → SameRoom s t
page_enters s t p true e = moved_to s t (with_locks s t.locks) e.1 (of_locks s t.locks)
page_enters s t p false e = moved_to s t s e (itself s)

enters_page : (s t : MarksState) (n : Name) → EntersPage s n t → SameRoom s t
enters_page s t (name.Space table) e = moved_to s t s e (itself s)
enters_page s t (name.Row table k) e = moved_to s t s e (itself s)
enters_page s t (name.Page p) e = page_enters s t p (may_enter_page s p) e
enters_page s t (name.Set number) e = moved_to s t s e (itself s)

enters : (s t : MarksState) (b : Bool) (o : Owner) (n : Name) (m : Mode) (place : ℕ) → Enters b s o n m place t → SameRoom s t
enters s t true o n m place e = moved_to s t (agent_entered s o n m place) e (agent_enters s o n m place)
enters s t false o n m place e = enters_page s t n e

refuses : (s : MarksState) (o : Owner) (n : Name) (answer : Reply) (place : ℕ) → SameRoom s (refused_after s o n answer place)
refuses s o n (reply.Granted version) place = itself s
refuses s o n (reply.Retained by) place = of_offer s o (refusal.Retained n by) place
refuses s o n (reply.RecordsFull limit) place = of_offer s o (refusal.RecordsFull limit) place
refuses s o n (reply.Contention share exclusive version) place = itself s
refuses s o n (reply.Moved version) place = itself s
refuses s o n (reply.RetainedLock name mode) place = itself s
refuses s o n reply.Done place = itself s
refuses s o n reply.Nothing place = itself s
refuses s o n reply.Found place = itself s
refuses s o n reply.NoData place = itself s
refuses s o n reply.CacheFull place = itself s
refuses s o n reply.Lost place = itself s
refuses s o n reply.Written place = itself s
refuses s o n reply.Valid place = itself s
refuses s o n reply.Invalid place = itself s
refuses s o n reply.Taken place = itself s
refuses s o n reply.NotChanged place = itself s
refuses s o n (reply.Locked by) place = itself s
refuses s o n reply.NotHeld place = itself s
refuses s o n (reply.ChangedPage page) place = itself s
refuses s o n (reply.Query query) place = itself s
refuses s o n reply.Gone place = itself s
refuses s o n reply.Cells place = itself s
refuses s o n reply.Waits place = itself s
refuses s o n reply.Raised place = itself s
refuses s o n reply.NotRaised place = itself s
refuses s o n (reply.Status status) place = itself s
refuses s o n reply.NotLost place = itself s
refuses s o n (reply.ClaimTaken by) place = itself s
refuses s o n reply.Claimed place = itself s
refuses s o n (reply.Drawn lrsn) place = itself s
refuses s o n (reply.Stale index) place = itself s
refuses s o n (reply.LrsnEnd end) place = itself s

pub claims : (s t : MarksState) (o : Owner) (n : Name) (m : Mode) (answer : Reply) (place : ℕ) → Claims s o n m answer place t → SameRoom s t
claims s t o n m (reply.Granted version) place e = enters s t (is_for_agents n) o n m place e
claims s t o n m (reply.Retained by) place e = moved_to s t (refused_after s o n (reply.Retained by) place) e (refuses s o n (reply.Retained by) place)
claims s t o n m (reply.RecordsFull limit) place e = moved_to s t (refused_after s o n (reply.RecordsFull limit) place) e (refuses s o n (reply.RecordsFull limit) place)
claims s t o n m (reply.Contention share exclusive version) place e = moved_to s t (refused_after s o n (reply.Contention share exclusive version) place) e (refuses s o n (reply.Contention share exclusive version) place)
claims s t o n m (reply.Moved version) place e = moved_to s t (refused_after s o n (reply.Moved version) place) e (refuses s o n (reply.Moved version) place)
claims s t o n m (reply.RetainedLock name mode) place e = moved_to s t (refused_after s o n (reply.RetainedLock name mode) place) e (refuses s o n (reply.RetainedLock name mode) place)
claims s t o n m reply.Done place e = moved_to s t (refused_after s o n reply.Done place) e (refuses s o n reply.Done place)
claims s t o n m reply.Nothing place e = moved_to s t (refused_after s o n reply.Nothing place) e (refuses s o n reply.Nothing place)
claims s t o n m reply.Found place e = moved_to s t (refused_after s o n reply.Found place) e (refuses s o n reply.Found place)
claims s t o n m reply.NoData place e = moved_to s t (refused_after s o n reply.NoData place) e (refuses s o n reply.NoData place)
claims s t o n m reply.CacheFull place e = moved_to s t (refused_after s o n reply.CacheFull place) e (refuses s o n reply.CacheFull place)
claims s t o n m reply.Lost place e = moved_to s t (refused_after s o n reply.Lost place) e (refuses s o n reply.Lost place)
claims s t o n m reply.Written place e = moved_to s t (refused_after s o n reply.Written place) e (refuses s o n reply.Written place)
claims s t o n m reply.Valid place e = moved_to s t (refused_after s o n reply.Valid place) e (refuses s o n reply.Valid place)
claims s t o n m reply.Invalid place e = moved_to s t (refused_after s o n reply.Invalid place) e (refuses s o n reply.Invalid place)
claims s t o n m reply.Taken place e = moved_to s t (refused_after s o n reply.Taken place) e (refuses s o n reply.Taken place)
claims s t o n m reply.NotChanged place e = moved_to s t (refused_after s o n reply.NotChanged place) e (refuses s o n reply.NotChanged place)
claims s t o n m (reply.Locked by) place e = moved_to s t (refused_after s o n (reply.Locked by) place) e (refuses s o n (reply.Locked by) place)
claims s t o n m reply.NotHeld place e = moved_to s t (refused_after s o n reply.NotHeld place) e (refuses s o n reply.NotHeld place)
claims s t o n m (reply.ChangedPage page) place e = moved_to s t (refused_after s o n (reply.ChangedPage page) place) e (refuses s o n (reply.ChangedPage page) place)
claims s t o n m (reply.Query query) place e = moved_to s t (refused_after s o n (reply.Query query) place) e (refuses s o n (reply.Query query) place)
claims s t o n m reply.Gone place e = moved_to s t (refused_after s o n reply.Gone place) e (refuses s o n reply.Gone place)
claims s t o n m reply.Cells place e = moved_to s t (refused_after s o n reply.Cells place) e (refuses s o n reply.Cells place)
claims s t o n m reply.Waits place e = moved_to s t (refused_after s o n reply.Waits place) e (refuses s o n reply.Waits place)
claims s t o n m reply.Raised place e = moved_to s t (refused_after s o n reply.Raised place) e (refuses s o n reply.Raised place)
claims s t o n m reply.NotRaised place e = moved_to s t (refused_after s o n reply.NotRaised place) e (refuses s o n reply.NotRaised place)
claims s t o n m (reply.Status status) place e = moved_to s t (refused_after s o n (reply.Status status) place) e (refuses s o n (reply.Status status) place)
claims s t o n m reply.NotLost place e = moved_to s t (refused_after s o n reply.NotLost place) e (refuses s o n reply.NotLost place)
claims s t o n m (reply.ClaimTaken by) place e = moved_to s t (refused_after s o n (reply.ClaimTaken by) place) e (refuses s o n (reply.ClaimTaken by) place)
claims s t o n m reply.Claimed place e = moved_to s t (refused_after s o n reply.Claimed place) e (refuses s o n reply.Claimed place)
claims s t o n m (reply.Drawn lrsn) place e = moved_to s t (refused_after s o n (reply.Drawn lrsn) place) e (refuses s o n (reply.Drawn lrsn) place)
claims s t o n m (reply.Stale index) place e = moved_to s t (refused_after s o n (reply.Stale index) place) e (refuses s o n (reply.Stale index) place)
claims s t o n m (reply.LrsnEnd end) place e = moved_to s t (refused_after s o n (reply.LrsnEnd end) place) e (refuses s o n (reply.LrsnEnd end) place)

-- ---- a lock is given up, and a transaction ends
noted : (s : MarksState) (o : Owner) (b : Book) → SameRoom s (with_locks (noted_released s o) b)
noted s o b = record { frames = refl; slots = many_of s.trans o (with_released (tran_of s o)) }

release : (s : MarksState) (o : Owner) → SameRoom s (after_release_of s o)
release s (owner.Slot slot) = if_so s (with_locks (noted_released s (owner.Slot slot)) (after_release s.locks slot)) s (is_agent s slot) (noted s (owner.Slot slot) (after_release s.locks slot)) (itself s)
release s (owner.Rollback id) = if_so s (with_locks (noted_released s (owner.Rollback id)) (after_postponed_release s.locks (lock_place s id))) s (is_some (rollback_releasing s id))
    (noted s (owner.Rollback id) (after_postponed_release s.locks (lock_place s id))) (itself s)

pub releases : (s : MarksState) (o : Owner) (answer : Reply) → SameRoom s (released_after s o answer)
releases s o (reply.Granted version) = itself s
releases s o (reply.Retained by) = itself s
releases s o (reply.RecordsFull limit) = itself s
releases s o (reply.Contention share exclusive version) = itself s
releases s o (reply.Moved version) = itself s
releases s o (reply.RetainedLock name mode) = itself s
releases s o reply.Done = release s o
releases s o reply.Nothing = itself s
releases s o reply.Found = itself s
releases s o reply.NoData = itself s
releases s o reply.CacheFull = itself s
releases s o reply.Lost = itself s
releases s o reply.Written = itself s
releases s o reply.Valid = itself s
releases s o reply.Invalid = itself s
releases s o reply.Taken = itself s
releases s o reply.NotChanged = itself s
releases s o (reply.Locked by) = itself s
releases s o reply.NotHeld = itself s
releases s o (reply.ChangedPage page) = itself s
releases s o (reply.Query query) = itself s
releases s o reply.Gone = itself s
releases s o reply.Cells = itself s
releases s o reply.Waits = itself s
releases s o reply.Raised = itself s
releases s o reply.NotRaised = itself s
releases s o (reply.Status status) = itself s
releases s o reply.NotLost = itself s
releases s o (reply.ClaimTaken by) = itself s
releases s o reply.Claimed = itself s
releases s o (reply.Drawn lrsn) = itself s
releases s o (reply.Stale index) = itself s
releases s o (reply.LrsnEnd end) = itself s

release_page : (s : MarksState) (p : PageId) → SameRoom s (after_release_page s p)
release_page s p = if_so s (with_locks s (after_page_release s.locks (name.Page p))) s (has_page s p) (of_locks s (after_page_release s.locks (name.Page p))) (itself s)

pub releases_page : (s : MarksState) (p : PageId) (answer : Reply) → SameRoom s (page_released_after s p answer)
releases_page s p (reply.Granted version) = itself s
releases_page s p (reply.Retained by) = itself s
releases_page s p (reply.RecordsFull limit) = itself s
releases_page s p (reply.Contention share exclusive version) = itself s
releases_page s p (reply.Moved version) = itself s
releases_page s p (reply.RetainedLock name mode) = itself s
releases_page s p reply.Done = release_page s p
releases_page s p reply.Nothing = itself s
releases_page s p reply.Found = itself s
releases_page s p reply.NoData = itself s
releases_page s p reply.CacheFull = itself s
releases_page s p reply.Lost = itself s
releases_page s p reply.Written = itself s
releases_page s p reply.Valid = itself s
releases_page s p reply.Invalid = itself s
releases_page s p reply.Taken = itself s
releases_page s p reply.NotChanged = itself s
releases_page s p (reply.Locked by) = itself s
releases_page s p reply.NotHeld = itself s
releases_page s p (reply.ChangedPage page) = itself s
releases_page s p (reply.Query query) = itself s
releases_page s p reply.Gone = itself s
releases_page s p reply.Cells = itself s
releases_page s p reply.Waits = itself s
releases_page s p reply.Raised = itself s
releases_page s p reply.NotRaised = itself s
releases_page s p (reply.Status status) = itself s
releases_page s p reply.NotLost = itself s
releases_page s p (reply.ClaimTaken by) = itself s
releases_page s p reply.Claimed = itself s
releases_page s p (reply.Drawn lrsn) = itself s
releases_page s p (reply.Stale index) = itself s
releases_page s p (reply.LrsnEnd end) = itself s

pub end_of : (s : MarksState) (o : Owner) → SameRoom s (after_end_of s o)
end_of s (owner.Slot slot) =
    if_so s (record s { locks = with_claims s.locks slot []; trans = after_end s.trans (owner.Slot slot) }) s (is_agent s slot)
    (of_both s (with_claims s.locks slot []) (after_end s.trans (owner.Slot slot)) (many_ended s.trans (owner.Slot slot))) (itself s)
end_of s (owner.Rollback id) = of_both s (dropped s.locks (lock_place s id)) (after_end s.trans (owner.Rollback id)) (many_ended s.trans (owner.Rollback id))

pub ends : (s : MarksState) (o : Owner) (answer : Reply) → SameRoom s (ended_after s o answer)
ends s o (reply.Granted version) = itself s
ends s o (reply.Retained by) = itself s
ends s o (reply.RecordsFull limit) = itself s
ends s o (reply.Contention share exclusive version) = itself s
ends s o (reply.Moved version) = itself s
ends s o (reply.RetainedLock name mode) = itself s
ends s o reply.Done = end_of s o
ends s o reply.Nothing = itself s
ends s o reply.Found = itself s
ends s o reply.NoData = itself s
ends s o reply.CacheFull = itself s
ends s o reply.Lost = itself s
ends s o reply.Written = itself s
ends s o reply.Valid = itself s
ends s o reply.Invalid = itself s
ends s o reply.Taken = itself s
ends s o reply.NotChanged = itself s
ends s o (reply.Locked by) = itself s
ends s o reply.NotHeld = itself s
ends s o (reply.ChangedPage page) = itself s
ends s o (reply.Query query) = itself s
ends s o reply.Gone = itself s
ends s o reply.Cells = itself s
ends s o reply.Waits = itself s
ends s o reply.Raised = itself s
ends s o reply.NotRaised = itself s
ends s o (reply.Status status) = itself s
ends s o reply.NotLost = itself s
ends s o (reply.ClaimTaken by) = itself s
ends s o reply.Claimed = itself s
ends s o (reply.Drawn lrsn) = itself s
ends s o (reply.Stale index) = itself s
ends s o (reply.LrsnEnd end) = itself s
