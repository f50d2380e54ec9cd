-- What is settled of the replies to commands that take and give up no locks.
use Rattle.std.proofs.Common.{◌≡◌, ℕ, refl, Bool, true, false, List, Option, Some, None}
use Rattle.std.specs.Prelude.{nat_lt, length, slice_set}
use Rattle.std.proofs.lemmas.Bool.{cond_both}
use Rattle.ds_base.specs.declared.names.PageId.{PageId}
use Rattle.ds_base.specs.declared.names.TranId.{TranId}
use Rattle.ds_model.specs.declared.fate.Refusal.{Refusal}
use Rattle.ds_model.specs.declared.fate.Refusal.TheVariants as refusal
use Rattle.ds_model.specs.declared.lock.Name.{Name}
use Rattle.ds_model.specs.declared.log.RowChange.{RowChange}
use Rattle.list_structure.specs.declared.query.CellAnswer.{CellAnswer}
use Rattle.list_structure.specs.declared.query.CellAnswer.TheVariants as cell_answer
use Rattle.list_structure.specs.declared.wait.Wait.{Wait}
use Rattle.facility.specs.declared.command.Reply.{Reply}
use Rattle.facility.specs.declared.command.Reply.TheVariants as reply
use Rattle.page_format.specs.declared.patch.Patch.{Patch}
use Rattle.write_order.specs.declared.rank.Rank.{Rank}
use Rattle.write_order.specs.Ranks.{rank_of}
use Rattle.heap_space.specs.Written.{written}
use Rattle.page_plans.specs.Rows.{after_row}
use Rattle.member_intents.specs.declared.intent.Frames.{Frames}
use Rattle.member_trans.specs.declared.fate.Owner.{Owner}
use Rattle.member_trans.specs.declared.fate.Owner.TheVariants as owner
use Rattle.member_trans.specs.Trans.{after_offer}
use Rattle.member_marks.specs.Names.{without_name}
use Rattle.member_marks.specs.State.{MarksState}
use Rattle.member_marks.specs.Claims.{offered}
use Rattle.member_marks.specs.Frames.{frame_in, is_placed, with_registered, with_filled, after_registered, after_filled, after_written, after_marked, after_unregister}
use Rattle.member_pool.specs.Heads.{freed, marked, written as head_written}
use Rattle.member_effects.specs.Given.{Plan}
use Rattle.member_effects.specs.Given.plan_variants as plan
use Rattle.member_effects.specs.Given.{frame_of}
use Rattle.member_effects.specs.declared.answers.Said.{Said}
use Rattle.member_effects.specs.declared.answers.Said.TheVariants as said
use Rattle.member_effects.specs.declared.told.Told.{Told}
use Rattle.member_effects.specs.Answers.{found_after, in_the_way_after}
use Rattle.member_effects.specs.Changes.{patched_page, patched_nth, patched_frames, row_page, row_frame, row_nth, changed_by, back_by, undrawn_after, drawn_after, undone_after, committed_after, bytes_at, put_page}
use Rattle.member_effects.specs.Closing.{purged_after}
use Rattle.member_effects.specs.Cycles.{RefusesCycle, cycle_after}
use Rattle.member_effects.specs.Frames.{read_after, valid_after, tested_after, written_after, unregistered_after, full_at}
use Rattle.member_effects.specs.Kept as bytes
use Rattle.marks_law.proofs.Kept.{Kept, kept_itself, kept_as, kept_on, kept_if, kept_heads, kept_names, kept_trans, same_slots}
use Rattle.marks_law.proofs.Staying.{stay_same}
use Rattle.marks_law.proofs.Records.{kept_change, kept_system, kept_undo, kept_commit}

-- ---- refusals
pub kept_offered : (s : MarksState) (o : Owner) (r : Refusal) (place : ℕ) → Kept s (offered s o r place)
kept_offered s o r place = kept_trans s (after_offer s.trans o r place) (λ h. same_slots s.trans (after_offer s.trans o r place) s.locks.agents h refl refl) (λ slot f. f) (stay_same s.trans (after_offer s.trans o r place) refl refl)

in_the_way : (s : MarksState) (o : Owner) (n : Name) (a : CellAnswer) (event : ℕ) → Kept s (in_the_way_after s o n a event)
in_the_way s o n cell_answer.Clean event = kept_itself s
in_the_way s o n (cell_answer.Conflict by) event = kept_offered s o (refusal.Held n by) event
in_the_way s o n (cell_answer.Postponed m) event = kept_offered s o (refusal.Retained n m) event

pub kept_found : (s : MarksState) (o : Owner) (n : Name) (x : Said) → Kept s (found_after s o n x)
kept_found s o n said.Clean = kept_itself s
kept_found s o n said.Empty = kept_itself s
kept_found s o n said.Open = kept_itself s
kept_found s o n (said.InTheWay a event) = in_the_way s o n a event

pub kept_cycle : (s t : MarksState) (waits : List Wait) (slots place : ℕ) (x : Told) → RefusesCycle s waits slots place x t → Kept s t
kept_cycle s t waits slots place x r = by r.0 r.3
  where
    by : (found : Option (ℕ × List TranId)) → t ≡ cycle_after s place found → Kept s t
    by None e = kept_as s t s e (kept_itself s)
    by (Some x) e = kept_as s t (offered s (owner.Slot x.0) (refusal.Deadlock x.1) place) e (kept_offered s (owner.Slot x.0) (refusal.Deadlock x.1) place)

-- ---- frames
pub kept_registered : (s : MarksState) (at : ℕ) (b : Bool) → Kept s (after_registered s at b)
kept_registered s at b = kept_if s _ _ (is_placed s.heads at) (λ e. kept_heads s (with_registered s.heads at b)) (λ e. kept_itself s)

pub kept_filled : (s : MarksState) (at : ℕ) (b : Bool) → Kept s (after_filled s at b)
kept_filled s at b = kept_if s _ _ (is_placed s.heads at) (λ e. kept_heads s (with_filled s.heads at b)) (λ e. kept_itself s)

kept_write : (s : MarksState) (at : ℕ) → Kept s (after_written s at)
kept_write s at = kept_if s _ _ (is_placed s.heads at) (λ e. kept_heads s (with_registered (head_written s.heads at) at true)) (λ e. kept_itself s)

kept_marked : (s : MarksState) (at : ℕ) (rank : Rank) → Kept s (after_marked s at rank)
kept_marked s at rank = kept_if s _ _ (is_placed s.heads at) (λ e. kept_heads s (marked s.heads at rank)) (λ e. kept_itself s)

kept_freed : (s : MarksState) (at : ℕ) → Kept s (after_unregister s at)
kept_freed s at = kept_if s _ _ (nat_lt at (length s.heads.frames)) (λ e. kept_heads s (freed s.heads at)) (λ e. kept_itself s)

kept_valid : (s : MarksState) (slot place : ℕ) (full : Option (ℕ × ℕ)) → Kept s (valid_after s slot place full)
kept_valid s slot place None = kept_itself s
kept_valid s slot place (Some full) = kept_offered s (owner.Slot slot) (refusal.SpaceFull full.0 full.1) place

pub kept_read : (s : MarksState) (at : ℕ) (answer : Reply) → Kept s (read_after s at answer)
kept_read s at (reply.Granted version) = kept_itself s
kept_read s at (reply.Retained by) = kept_itself s
kept_read s at (reply.RecordsFull limit) = kept_itself s
kept_read s at (reply.Contention share exclusive version) = kept_itself s
kept_read s at (reply.Moved version) = kept_itself s
kept_read s at (reply.RetainedLock name mode) = kept_itself s
kept_read s at reply.Done = kept_itself s
kept_read s at reply.Nothing = kept_itself s
kept_read s at reply.Found = kept_on s _ _ (kept_registered s at true) (kept_filled (after_registered s at true) at true)
kept_read s at reply.NoData = kept_on s _ _ (kept_registered s at true) (kept_filled (after_registered s at true) at (frame_in (after_registered s at true).heads at).changed)
kept_read s at reply.CacheFull = kept_itself s
kept_read s at reply.Lost = kept_itself s
kept_read s at reply.Written = kept_itself s
kept_read s at reply.Valid = kept_itself s
kept_read s at reply.Invalid = kept_itself s
kept_read s at reply.Taken = kept_itself s
kept_read s at reply.NotChanged = kept_itself s
kept_read s at (reply.Locked by) = kept_itself s
kept_read s at reply.NotHeld = kept_itself s
kept_read s at (reply.ChangedPage page) = kept_itself s
kept_read s at (reply.Query query) = kept_itself s
kept_read s at reply.Gone = kept_itself s
kept_read s at reply.Cells = kept_itself s
kept_read s at reply.Waits = kept_itself s
kept_read s at reply.Raised = kept_itself s
kept_read s at reply.NotRaised = kept_itself s
kept_read s at (reply.Status status) = kept_itself s
kept_read s at reply.NotLost = kept_itself s
kept_read s at (reply.ClaimTaken by) = kept_itself s
kept_read s at reply.Claimed = kept_itself s
kept_read s at (reply.Drawn lrsn) = kept_itself s
kept_read s at (reply.Stale index) = kept_itself s
kept_read s at (reply.LrsnEnd end) = kept_itself s

pub kept_tested : (s : MarksState) (pages : List (List ℕ)) (at slot : ℕ) (gives : Option ℕ) (limit : ℕ) (answer : Reply) (place : ℕ) → Kept s (tested_after s pages at slot gives limit answer place)
kept_tested s pages at slot gives limit (reply.Granted version) place = kept_registered s at false
kept_tested s pages at slot gives limit (reply.Retained by) place = kept_registered s at false
kept_tested s pages at slot gives limit (reply.RecordsFull most) place = kept_registered s at false
kept_tested s pages at slot gives limit (reply.Contention share exclusive version) place = kept_registered s at false
kept_tested s pages at slot gives limit (reply.Moved version) place = kept_registered s at false
kept_tested s pages at slot gives limit (reply.RetainedLock name mode) place = kept_registered s at false
kept_tested s pages at slot gives limit reply.Done place = kept_registered s at false
kept_tested s pages at slot gives limit reply.Nothing place = kept_registered s at false
kept_tested s pages at slot gives limit reply.Found place = kept_registered s at false
kept_tested s pages at slot gives limit reply.NoData place = kept_registered s at false
kept_tested s pages at slot gives limit reply.CacheFull place = kept_registered s at false
kept_tested s pages at slot gives limit reply.Lost place = kept_registered s at false
kept_tested s pages at slot gives limit reply.Written place = kept_registered s at false
kept_tested s pages at slot gives limit reply.Valid place = kept_on s _ _ (kept_registered s at true) (kept_valid (after_registered s at true) slot place (full_at pages at gives limit))
kept_tested s pages at slot gives limit reply.Invalid place = kept_registered s at false
kept_tested s pages at slot gives limit reply.Taken place = kept_registered s at false
kept_tested s pages at slot gives limit reply.NotChanged place = kept_registered s at false
kept_tested s pages at slot gives limit (reply.Locked by) place = kept_registered s at false
kept_tested s pages at slot gives limit reply.NotHeld place = kept_registered s at false
kept_tested s pages at slot gives limit (reply.ChangedPage page) place = kept_registered s at false
kept_tested s pages at slot gives limit (reply.Query query) place = kept_registered s at false
kept_tested s pages at slot gives limit reply.Gone place = kept_registered s at false
kept_tested s pages at slot gives limit reply.Cells place = kept_registered s at false
kept_tested s pages at slot gives limit reply.Waits place = kept_registered s at false
kept_tested s pages at slot gives limit reply.Raised place = kept_registered s at false
kept_tested s pages at slot gives limit reply.NotRaised place = kept_registered s at false
kept_tested s pages at slot gives limit (reply.Status status) place = kept_registered s at false
kept_tested s pages at slot gives limit reply.NotLost place = kept_registered s at false
kept_tested s pages at slot gives limit (reply.ClaimTaken by) place = kept_registered s at false
kept_tested s pages at slot gives limit reply.Claimed place = kept_registered s at false
kept_tested s pages at slot gives limit (reply.Drawn lrsn) place = kept_registered s at false
kept_tested s pages at slot gives limit (reply.Stale index) place = kept_registered s at false
kept_tested s pages at slot gives limit (reply.LrsnEnd end) place = kept_registered s at false

pub kept_written : (s : MarksState) (at : ℕ) (answer : Reply) → Kept s (written_after s at answer)
kept_written s at (reply.Granted version) = kept_itself s
kept_written s at (reply.Retained by) = kept_itself s
kept_written s at (reply.RecordsFull limit) = kept_itself s
kept_written s at (reply.Contention share exclusive version) = kept_itself s
kept_written s at (reply.Moved version) = kept_itself s
kept_written s at (reply.RetainedLock name mode) = kept_itself s
kept_written s at reply.Done = kept_itself s
kept_written s at reply.Nothing = kept_itself s
kept_written s at reply.Found = kept_itself s
kept_written s at reply.NoData = kept_itself s
kept_written s at reply.CacheFull = kept_itself s
kept_written s at reply.Lost = kept_itself s
kept_written s at reply.Written = kept_write s at
kept_written s at reply.Valid = kept_itself s
kept_written s at reply.Invalid = kept_itself s
kept_written s at reply.Taken = kept_itself s
kept_written s at reply.NotChanged = kept_itself s
kept_written s at (reply.Locked by) = kept_itself s
kept_written s at reply.NotHeld = kept_itself s
kept_written s at (reply.ChangedPage page) = kept_itself s
kept_written s at (reply.Query query) = kept_itself s
kept_written s at reply.Gone = kept_itself s
kept_written s at reply.Cells = kept_itself s
kept_written s at reply.Waits = kept_itself s
kept_written s at reply.Raised = kept_itself s
kept_written s at reply.NotRaised = kept_itself s
kept_written s at (reply.Status status) = kept_itself s
kept_written s at reply.NotLost = kept_itself s
kept_written s at (reply.ClaimTaken by) = kept_itself s
kept_written s at reply.Claimed = kept_itself s
kept_written s at (reply.Drawn lrsn) = kept_itself s
kept_written s at (reply.Stale index) = kept_itself s
kept_written s at (reply.LrsnEnd end) = kept_itself s

pub kept_unregistered : (s : MarksState) (at : ℕ) (answer : Reply) → Kept s (unregistered_after s at answer)
kept_unregistered s at (reply.Granted version) = kept_itself s
kept_unregistered s at (reply.Retained by) = kept_itself s
kept_unregistered s at (reply.RecordsFull limit) = kept_itself s
kept_unregistered s at (reply.Contention share exclusive version) = kept_itself s
kept_unregistered s at (reply.Moved version) = kept_itself s
kept_unregistered s at (reply.RetainedLock name mode) = kept_itself s
kept_unregistered s at reply.Done = kept_freed s at
kept_unregistered s at reply.Nothing = kept_itself s
kept_unregistered s at reply.Found = kept_itself s
kept_unregistered s at reply.NoData = kept_itself s
kept_unregistered s at reply.CacheFull = kept_itself s
kept_unregistered s at reply.Lost = kept_itself s
kept_unregistered s at reply.Written = kept_itself s
kept_unregistered s at reply.Valid = kept_itself s
kept_unregistered s at reply.Invalid = kept_itself s
kept_unregistered s at reply.Taken = kept_itself s
kept_unregistered s at reply.NotChanged = kept_itself s
kept_unregistered s at (reply.Locked by) = kept_itself s
kept_unregistered s at reply.NotHeld = kept_itself s
kept_unregistered s at (reply.ChangedPage page) = kept_itself s
kept_unregistered s at (reply.Query query) = kept_itself s
kept_unregistered s at reply.Gone = kept_itself s
kept_unregistered s at reply.Cells = kept_itself s
kept_unregistered s at reply.Waits = kept_itself s
kept_unregistered s at reply.Raised = kept_itself s
kept_unregistered s at reply.NotRaised = kept_itself s
kept_unregistered s at (reply.Status status) = kept_itself s
kept_unregistered s at reply.NotLost = kept_itself s
kept_unregistered s at (reply.ClaimTaken by) = kept_itself s
kept_unregistered s at reply.Claimed = kept_itself s
kept_unregistered s at (reply.Drawn lrsn) = kept_itself s
kept_unregistered s at (reply.Stale index) = kept_itself s
kept_unregistered s at (reply.LrsnEnd end) = kept_itself s

pub kept_purged : (s : MarksState) (n : Name) (answer : Reply) → Kept s (purged_after s n answer)
kept_purged s n (reply.Granted version) = kept_itself s
kept_purged s n (reply.Retained by) = kept_itself s
kept_purged s n (reply.RecordsFull limit) = kept_itself s
kept_purged s n (reply.Contention share exclusive version) = kept_itself s
kept_purged s n (reply.Moved version) = kept_itself s
kept_purged s n (reply.RetainedLock name mode) = kept_itself s
kept_purged s n reply.Done = kept_names s (without_name s.kept n)
kept_purged s n reply.Nothing = kept_itself s
kept_purged s n reply.Found = kept_itself s
kept_purged s n reply.NoData = kept_itself s
kept_purged s n reply.CacheFull = kept_itself s
kept_purged s n reply.Lost = kept_itself s
kept_purged s n reply.Written = kept_itself s
kept_purged s n reply.Valid = kept_itself s
kept_purged s n reply.Invalid = kept_itself s
kept_purged s n reply.Taken = kept_itself s
kept_purged s n reply.NotChanged = kept_itself s
kept_purged s n (reply.Locked by) = kept_itself s
kept_purged s n reply.NotHeld = kept_itself s
kept_purged s n (reply.ChangedPage page) = kept_itself s
kept_purged s n (reply.Query query) = kept_itself s
kept_purged s n reply.Gone = kept_itself s
kept_purged s n reply.Cells = kept_itself s
kept_purged s n reply.Waits = kept_itself s
kept_purged s n reply.Raised = kept_itself s
kept_purged s n reply.NotRaised = kept_itself s
kept_purged s n (reply.Status status) = kept_itself s
kept_purged s n reply.NotLost = kept_itself s
kept_purged s n (reply.ClaimTaken by) = kept_itself s
kept_purged s n reply.Claimed = kept_itself s
kept_purged s n (reply.Drawn lrsn) = kept_itself s
kept_purged s n (reply.Stale index) = kept_itself s
kept_purged s n (reply.LrsnEnd at) = kept_itself s

-- ---- changes
abbrev pub KeptBytes : bytes.Kept → bytes.Kept → Type 0
KeptBytes k l = Kept k.marks l.marks

patched_at : (k : bytes.Kept) (at : ℕ) (o : Option PageId) (ps : List Patch) (lrsn : ℕ) → KeptBytes k (patched_page k at o ps lrsn)
patched_at k at None ps lrsn = kept_itself k.marks
patched_at k at (Some id) ps lrsn = cond_both (nat_lt at (length k.pages)) (put_page k at id (written id lrsn ps (bytes_at k.pages at))) k (λ z. KeptBytes k z)
    (λ e. kept_marked k.marks at (rank_of id (bytes_at (slice_set k.pages at (written id lrsn ps (bytes_at k.pages at))) at))) (λ e. kept_itself k.marks)

patched_in : (k : bytes.Kept) (o : Option ℕ) (ps : List Patch) (lrsn : ℕ) → KeptBytes k (patched_nth k o ps lrsn)
patched_in k None ps lrsn = kept_itself k.marks
patched_in k (Some at) ps lrsn = patched_at k at (frame_in k.marks.heads at).page ps lrsn

patched_all : (k : bytes.Kept) (frames : Frames) (ps : List Patch) (lrsn : ℕ) → KeptBytes k (patched_frames k frames ps lrsn)
patched_all k frames ps lrsn =
    let one = patched_nth k (frame_of frames 0) ps lrsn in
    let two = patched_nth one (frame_of frames 1) ps lrsn in
    let last = patched_nth two (frame_of frames 2) ps lrsn in
    kept_on k.marks two.marks last.marks (kept_on k.marks one.marks two.marks (patched_in k (frame_of frames 0) ps lrsn) (patched_in one (frame_of frames 1) ps lrsn)) (patched_in two (frame_of frames 2) ps lrsn)

row_at : (k : bytes.Kept) (at : ℕ) (o : Option PageId) (c : RowChange) (lrsn : ℕ) → KeptBytes k (row_page k at o c lrsn)
row_at k at None c lrsn = kept_itself k.marks
row_at k at (Some id) c lrsn = cond_both (nat_lt at (length k.pages)) (put_page k at id (after_row lrsn c (bytes_at k.pages at))) k (λ z. KeptBytes k z)
    (λ e. kept_marked k.marks at (rank_of id (bytes_at (slice_set k.pages at (after_row lrsn c (bytes_at k.pages at))) at))) (λ e. kept_itself k.marks)

row_in : (k : bytes.Kept) (o : Option ℕ) (c : RowChange) (lrsn : ℕ) → KeptBytes k (row_nth k o c lrsn)
row_in k None c lrsn = kept_itself k.marks
row_in k (Some at) c lrsn = row_at k at (frame_in k.marks.heads at).page c lrsn

kept_changed : (k : bytes.Kept) (slot : ℕ) (frames : Frames) (p : Plan) (lrsn : ℕ) → KeptBytes k (changed_by k slot frames p lrsn)
kept_changed k slot frames plan.None lrsn = kept_itself k.marks
kept_changed k slot frames (plan.System ps) lrsn =
    kept_on k.marks _ _ (patched_all k frames ps lrsn) (kept_system (patched_frames k frames ps lrsn).marks slot ps lrsn)
kept_changed k slot frames (plan.Row c) lrsn =
    kept_on k.marks _ _ (row_in k (frame_of frames 0) c lrsn) (kept_change (row_nth k (frame_of frames 0) c lrsn).marks slot lrsn c)
kept_changed k slot frames (plan.Back c) lrsn = kept_itself k.marks
kept_changed k slot frames (plan.Fault page at) lrsn = kept_itself k.marks

kept_back : (k : bytes.Kept) (o : Owner) (at : ℕ) (p : Plan) (lrsn : ℕ) → KeptBytes k (back_by k o at p lrsn)
kept_back k o at plan.None lrsn = kept_itself k.marks
kept_back k o at (plan.System ps) lrsn = kept_itself k.marks
kept_back k o at (plan.Row c) lrsn = kept_itself k.marks
kept_back k o at (plan.Back c) lrsn =
    kept_on k.marks _ _ (row_at k at (frame_in k.marks.heads at).page c lrsn) (kept_undo (row_frame k at c lrsn).marks o lrsn)
kept_back k o at (plan.Fault page offset) lrsn = kept_itself k.marks

kept_undrawn : (s : MarksState) (o : Owner) (answer : Reply) (place : ℕ) → Kept s (undrawn_after s o answer place)
kept_undrawn s o (reply.Granted version) place = kept_itself s
kept_undrawn s o (reply.Retained by) place = kept_itself s
kept_undrawn s o (reply.RecordsFull limit) place = kept_itself s
kept_undrawn s o (reply.Contention share exclusive version) place = kept_itself s
kept_undrawn s o (reply.Moved version) place = kept_itself s
kept_undrawn s o (reply.RetainedLock name mode) place = kept_itself s
kept_undrawn s o reply.Done place = kept_itself s
kept_undrawn s o reply.Nothing place = kept_itself s
kept_undrawn s o reply.Found place = kept_itself s
kept_undrawn s o reply.NoData place = kept_itself s
kept_undrawn s o reply.CacheFull place = kept_itself s
kept_undrawn s o reply.Lost place = kept_itself s
kept_undrawn s o reply.Written place = kept_itself s
kept_undrawn s o reply.Valid place = kept_itself s
kept_undrawn s o reply.Invalid place = kept_itself s
kept_undrawn s o reply.Taken place = kept_itself s
kept_undrawn s o reply.NotChanged place = kept_itself s
kept_undrawn s o (reply.Locked by) place = kept_itself s
kept_undrawn s o reply.NotHeld place = kept_itself s
kept_undrawn s o (reply.ChangedPage page) place = kept_itself s
kept_undrawn s o (reply.Query query) place = kept_itself s
kept_undrawn s o reply.Gone place = kept_itself s
kept_undrawn s o reply.Cells place = kept_itself s
kept_undrawn s o reply.Waits place = kept_itself s
kept_undrawn s o reply.Raised place = kept_itself s
kept_undrawn s o reply.NotRaised place = kept_itself s
kept_undrawn s o (reply.Status status) place = kept_itself s
kept_undrawn s o reply.NotLost place = kept_itself s
kept_undrawn s o (reply.ClaimTaken by) place = kept_itself s
kept_undrawn s o reply.Claimed place = kept_itself s
kept_undrawn s o (reply.Drawn lrsn) place = kept_itself s
kept_undrawn s o (reply.Stale index) place = kept_registered s index false
kept_undrawn s o (reply.LrsnEnd at) place = kept_offered s o (refusal.LrsnEnd at) place

pub kept_drawn : (k : bytes.Kept) (slot : ℕ) (frames : Frames) (p : Plan) (answer : Reply) (place : ℕ) → KeptBytes k (drawn_after k slot frames p answer place)
kept_drawn k slot frames p (reply.Granted version) place = kept_undrawn k.marks (owner.Slot slot) (reply.Granted version) place
kept_drawn k slot frames p (reply.Retained by) place = kept_undrawn k.marks (owner.Slot slot) (reply.Retained by) place
kept_drawn k slot frames p (reply.RecordsFull limit) place = kept_undrawn k.marks (owner.Slot slot) (reply.RecordsFull limit) place
kept_drawn k slot frames p (reply.Contention share exclusive version) place = kept_undrawn k.marks (owner.Slot slot) (reply.Contention share exclusive version) place
kept_drawn k slot frames p (reply.Moved version) place = kept_undrawn k.marks (owner.Slot slot) (reply.Moved version) place
kept_drawn k slot frames p (reply.RetainedLock name mode) place = kept_undrawn k.marks (owner.Slot slot) (reply.RetainedLock name mode) place
kept_drawn k slot frames p reply.Done place = kept_undrawn k.marks (owner.Slot slot) reply.Done place
kept_drawn k slot frames p reply.Nothing place = kept_undrawn k.marks (owner.Slot slot) reply.Nothing place
kept_drawn k slot frames p reply.Found place = kept_undrawn k.marks (owner.Slot slot) reply.Found place
kept_drawn k slot frames p reply.NoData place = kept_undrawn k.marks (owner.Slot slot) reply.NoData place
kept_drawn k slot frames p reply.CacheFull place = kept_undrawn k.marks (owner.Slot slot) reply.CacheFull place
kept_drawn k slot frames p reply.Lost place = kept_undrawn k.marks (owner.Slot slot) reply.Lost place
kept_drawn k slot frames p reply.Written place = kept_undrawn k.marks (owner.Slot slot) reply.Written place
kept_drawn k slot frames p reply.Valid place = kept_undrawn k.marks (owner.Slot slot) reply.Valid place
kept_drawn k slot frames p reply.Invalid place = kept_undrawn k.marks (owner.Slot slot) reply.Invalid place
kept_drawn k slot frames p reply.Taken place = kept_undrawn k.marks (owner.Slot slot) reply.Taken place
kept_drawn k slot frames p reply.NotChanged place = kept_undrawn k.marks (owner.Slot slot) reply.NotChanged place
kept_drawn k slot frames p (reply.Locked by) place = kept_undrawn k.marks (owner.Slot slot) (reply.Locked by) place
kept_drawn k slot frames p reply.NotHeld place = kept_undrawn k.marks (owner.Slot slot) reply.NotHeld place
kept_drawn k slot frames p (reply.ChangedPage page) place = kept_undrawn k.marks (owner.Slot slot) (reply.ChangedPage page) place
kept_drawn k slot frames p (reply.Query query) place = kept_undrawn k.marks (owner.Slot slot) (reply.Query query) place
kept_drawn k slot frames p reply.Gone place = kept_undrawn k.marks (owner.Slot slot) reply.Gone place
kept_drawn k slot frames p reply.Cells place = kept_undrawn k.marks (owner.Slot slot) reply.Cells place
kept_drawn k slot frames p reply.Waits place = kept_undrawn k.marks (owner.Slot slot) reply.Waits place
kept_drawn k slot frames p reply.Raised place = kept_undrawn k.marks (owner.Slot slot) reply.Raised place
kept_drawn k slot frames p reply.NotRaised place = kept_undrawn k.marks (owner.Slot slot) reply.NotRaised place
kept_drawn k slot frames p (reply.Status status) place = kept_undrawn k.marks (owner.Slot slot) (reply.Status status) place
kept_drawn k slot frames p reply.NotLost place = kept_undrawn k.marks (owner.Slot slot) reply.NotLost place
kept_drawn k slot frames p (reply.ClaimTaken by) place = kept_undrawn k.marks (owner.Slot slot) (reply.ClaimTaken by) place
kept_drawn k slot frames p reply.Claimed place = kept_undrawn k.marks (owner.Slot slot) reply.Claimed place
kept_drawn k slot frames p (reply.Drawn lrsn) place = kept_changed k slot frames p lrsn
kept_drawn k slot frames p (reply.Stale index) place = kept_undrawn k.marks (owner.Slot slot) (reply.Stale index) place
kept_drawn k slot frames p (reply.LrsnEnd at) place = kept_undrawn k.marks (owner.Slot slot) (reply.LrsnEnd at) place

pub kept_undone : (k : bytes.Kept) (o : Owner) (at : ℕ) (p : Plan) (answer : Reply) (place : ℕ) → KeptBytes k (undone_after k o at p answer place)
kept_undone k o at p (reply.Granted version) place = kept_undrawn k.marks o (reply.Granted version) place
kept_undone k o at p (reply.Retained by) place = kept_undrawn k.marks o (reply.Retained by) place
kept_undone k o at p (reply.RecordsFull limit) place = kept_undrawn k.marks o (reply.RecordsFull limit) place
kept_undone k o at p (reply.Contention share exclusive version) place = kept_undrawn k.marks o (reply.Contention share exclusive version) place
kept_undone k o at p (reply.Moved version) place = kept_undrawn k.marks o (reply.Moved version) place
kept_undone k o at p (reply.RetainedLock name mode) place = kept_undrawn k.marks o (reply.RetainedLock name mode) place
kept_undone k o at p reply.Done place = kept_undrawn k.marks o reply.Done place
kept_undone k o at p reply.Nothing place = kept_undrawn k.marks o reply.Nothing place
kept_undone k o at p reply.Found place = kept_undrawn k.marks o reply.Found place
kept_undone k o at p reply.NoData place = kept_undrawn k.marks o reply.NoData place
kept_undone k o at p reply.CacheFull place = kept_undrawn k.marks o reply.CacheFull place
kept_undone k o at p reply.Lost place = kept_undrawn k.marks o reply.Lost place
kept_undone k o at p reply.Written place = kept_undrawn k.marks o reply.Written place
kept_undone k o at p reply.Valid place = kept_undrawn k.marks o reply.Valid place
kept_undone k o at p reply.Invalid place = kept_undrawn k.marks o reply.Invalid place
kept_undone k o at p reply.Taken place = kept_undrawn k.marks o reply.Taken place
kept_undone k o at p reply.NotChanged place = kept_undrawn k.marks o reply.NotChanged place
kept_undone k o at p (reply.Locked by) place = kept_undrawn k.marks o (reply.Locked by) place
kept_undone k o at p reply.NotHeld place = kept_undrawn k.marks o reply.NotHeld place
kept_undone k o at p (reply.ChangedPage page) place = kept_undrawn k.marks o (reply.ChangedPage page) place
kept_undone k o at p (reply.Query query) place = kept_undrawn k.marks o (reply.Query query) place
kept_undone k o at p reply.Gone place = kept_undrawn k.marks o reply.Gone place
kept_undone k o at p reply.Cells place = kept_undrawn k.marks o reply.Cells place
kept_undone k o at p reply.Waits place = kept_undrawn k.marks o reply.Waits place
kept_undone k o at p reply.Raised place = kept_undrawn k.marks o reply.Raised place
kept_undone k o at p reply.NotRaised place = kept_undrawn k.marks o reply.NotRaised place
kept_undone k o at p (reply.Status status) place = kept_undrawn k.marks o (reply.Status status) place
kept_undone k o at p reply.NotLost place = kept_undrawn k.marks o reply.NotLost place
kept_undone k o at p (reply.ClaimTaken by) place = kept_undrawn k.marks o (reply.ClaimTaken by) place
kept_undone k o at p reply.Claimed place = kept_undrawn k.marks o reply.Claimed place
kept_undone k o at p (reply.Drawn lrsn) place = kept_back k o at p lrsn
kept_undone k o at p (reply.Stale index) place = kept_undrawn k.marks o (reply.Stale index) place
kept_undone k o at p (reply.LrsnEnd end) place = kept_undrawn k.marks o (reply.LrsnEnd end) place

pub kept_committed : (s : MarksState) (slot : ℕ) (answer : Reply) (place : ℕ) → Kept s (committed_after s slot answer place)
kept_committed s slot (reply.Granted version) place = kept_undrawn s (owner.Slot slot) (reply.Granted version) place
kept_committed s slot (reply.Retained by) place = kept_undrawn s (owner.Slot slot) (reply.Retained by) place
kept_committed s slot (reply.RecordsFull limit) place = kept_undrawn s (owner.Slot slot) (reply.RecordsFull limit) place
kept_committed s slot (reply.Contention share exclusive version) place = kept_undrawn s (owner.Slot slot) (reply.Contention share exclusive version) place
kept_committed s slot (reply.Moved version) place = kept_undrawn s (owner.Slot slot) (reply.Moved version) place
kept_committed s slot (reply.RetainedLock name mode) place = kept_undrawn s (owner.Slot slot) (reply.RetainedLock name mode) place
kept_committed s slot reply.Done place = kept_undrawn s (owner.Slot slot) reply.Done place
kept_committed s slot reply.Nothing place = kept_undrawn s (owner.Slot slot) reply.Nothing place
kept_committed s slot reply.Found place = kept_undrawn s (owner.Slot slot) reply.Found place
kept_committed s slot reply.NoData place = kept_undrawn s (owner.Slot slot) reply.NoData place
kept_committed s slot reply.CacheFull place = kept_undrawn s (owner.Slot slot) reply.CacheFull place
kept_committed s slot reply.Lost place = kept_undrawn s (owner.Slot slot) reply.Lost place
kept_committed s slot reply.Written place = kept_undrawn s (owner.Slot slot) reply.Written place
kept_committed s slot reply.Valid place = kept_undrawn s (owner.Slot slot) reply.Valid place
kept_committed s slot reply.Invalid place = kept_undrawn s (owner.Slot slot) reply.Invalid place
kept_committed s slot reply.Taken place = kept_undrawn s (owner.Slot slot) reply.Taken place
kept_committed s slot reply.NotChanged place = kept_undrawn s (owner.Slot slot) reply.NotChanged place
kept_committed s slot (reply.Locked by) place = kept_undrawn s (owner.Slot slot) (reply.Locked by) place
kept_committed s slot reply.NotHeld place = kept_undrawn s (owner.Slot slot) reply.NotHeld place
kept_committed s slot (reply.ChangedPage page) place = kept_undrawn s (owner.Slot slot) (reply.ChangedPage page) place
kept_committed s slot (reply.Query query) place = kept_undrawn s (owner.Slot slot) (reply.Query query) place
kept_committed s slot reply.Gone place = kept_undrawn s (owner.Slot slot) reply.Gone place
kept_committed s slot reply.Cells place = kept_undrawn s (owner.Slot slot) reply.Cells place
kept_committed s slot reply.Waits place = kept_undrawn s (owner.Slot slot) reply.Waits place
kept_committed s slot reply.Raised place = kept_undrawn s (owner.Slot slot) reply.Raised place
kept_committed s slot reply.NotRaised place = kept_undrawn s (owner.Slot slot) reply.NotRaised place
kept_committed s slot (reply.Status status) place = kept_undrawn s (owner.Slot slot) (reply.Status status) place
kept_committed s slot reply.NotLost place = kept_undrawn s (owner.Slot slot) reply.NotLost place
kept_committed s slot (reply.ClaimTaken by) place = kept_undrawn s (owner.Slot slot) (reply.ClaimTaken by) place
kept_committed s slot reply.Claimed place = kept_undrawn s (owner.Slot slot) reply.Claimed place
kept_committed s slot (reply.Drawn lrsn) place = kept_commit s slot lrsn
kept_committed s slot (reply.Stale index) place = kept_undrawn s (owner.Slot slot) (reply.Stale index) place
kept_committed s slot (reply.LrsnEnd at) place = kept_undrawn s (owner.Slot slot) (reply.LrsnEnd at) place
