-- What is settled of the replies to commands that take and give up no locks.
use Rattle.std.proofs.Common.{◌≡◌, ℕ, ◌<◌, refl, sym, ◌∙◌, ap, subst, Bool, true, false, List, Option, Some, None}
use Rattle.std.specs.Prelude.{nat_lt, if◌then◌else◌, length, slice_set}
use Rattle.std.proofs.lemmas.Bool.{cond_both}
use Rattle.ds_base.specs.declared.names.PageId.{PageId}
use Rattle.ds_base.specs.declared.names.TranId.{TranId}
use Rattle.ds_model.specs.declared.fate.Refusal.{Refusal}
use Rattle.ds_model.specs.declared.fate.Refusal.TheVariants as refusal
use Rattle.ds_model.specs.declared.lock.Name.{Name}
use Rattle.ds_model.specs.Rows.{Spot}
use Rattle.ds_model.specs.declared.log.RowChange.{RowChange}
use Rattle.member_marks.specs.Records.{after_change}
use Rattle.list_structure.specs.declared.query.CellAnswer.{CellAnswer}
use Rattle.list_structure.specs.declared.query.CellAnswer.TheVariants as cell_answer
use Rattle.list_structure.specs.declared.wait.Wait.{Wait}
use Rattle.facility.specs.declared.command.Reply.{Reply}
use Rattle.facility.specs.declared.command.Reply.TheVariants as reply
use Rattle.page_format.specs.declared.patch.Patch.{Patch}
use Rattle.write_order.specs.declared.rank.Rank.{Rank}
use Rattle.write_order.specs.Ranks.{rank_of}
use Rattle.heap_space.specs.Written.{written}
use Rattle.page_plans.specs.Rows.{after_row}
use Rattle.member_intents.specs.declared.intent.Frames.{Frames}
use Rattle.member_trans.specs.declared.fate.Owner.{Owner}
use Rattle.member_trans.specs.declared.fate.Owner.TheVariants as owner
use Rattle.member_marks.specs.Names.{without_name}
use Rattle.member_marks.specs.State.{MarksState, slot_tran, tran_of}
use Rattle.member_marks.specs.Claims.{offered}
use Rattle.member_marks.specs.Frames.{frame_in, is_placed, with_registered, with_filled, after_registered, after_filled, after_written, after_marked, after_unregister}
use Rattle.member_pool.specs.Heads.{freed, marked, written as head_written}
use Rattle.member_needs.specs.declared.plans.Plan.{Plan}
use Rattle.member_needs.specs.declared.plans.Plan.TheVariants as plan
use Rattle.member_needs.specs.Records.{frame_of}
use Rattle.member_effects.specs.declared.answers.Said.{Said}
use Rattle.member_effects.specs.declared.answers.Said.TheVariants as said
use Rattle.member_effects.specs.declared.told.Told.{Told}
use Rattle.member_effects.specs.Answers.{found_after, in_the_way_after}
use Rattle.member_effects.specs.Changes.{patched_page, patched_nth, patched_frames, row_page, row_frame, row_nth, changed_by, back_by, undrawn_after, drawn_after, undone_after, committed_after, bytes_at, put_page}
use Rattle.member_effects.specs.Closing.{purged_after}
use Rattle.member_effects.specs.Cycles.{RefusesCycle, cycle_after}
use Rattle.member_effects.specs.Frames.{read_after, valid_after, tested_after, written_after, unregistered_after, full_at}
use Rattle.member_effects.specs.Kept as bytes
use Rattle.member_effects.specs.Puts.{change_records, commit_records, drawn_by, undo_records}
use Rattle.log_rows.specs.Rows.{BothTell}
use Rattle.member_trans.specs.Trans.{TransState, is_forward, is_undoing, tran_of as tran_in}
use Rattle.member_log.specs.Buffers.{LogBuffer}
use Rattle.closing_law.proofs.Kept.{Adds, Kept, PutsRows, Same, Stays, adds_after, adds_these, kept_after, kept_as, kept_heads, kept_if, kept_itself, kept_names, kept_stays, puts_adds, puts_after, puts_kept, puts_these, same_if, same_itself, same_on, stays_heads, stays_if, stays_itself, stays_lists, stays_same}
use Rattle.closing_law.proofs.Records.{adds_commit, adds_system, adds_undo, changed_name, puts_change}

-- ---- refusals
pub stays_offered : (s : MarksState) (o : Owner) (r : Refusal) (place : ℕ) → Stays s (offered s o r place)
stays_offered s o r place = stays_lists s (offered s o r place) refl refl refl refl refl

pub kept_offered : (s : MarksState) (o : Owner) (r : Refusal) (place : ℕ) → Kept s (offered s o r place)
kept_offered s o r place = kept_stays s (offered s o r place) (stays_offered s o r place)

in_the_way : (s : MarksState) (o : Owner) (n : Name) (a : CellAnswer) (event : ℕ) → Kept s (in_the_way_after s o n a event)
in_the_way s o n cell_answer.Clean event = kept_itself s
in_the_way s o n (cell_answer.Conflict by) event = kept_offered s o (refusal.Held n by) event
in_the_way s o n (cell_answer.Postponed m) event = kept_offered s o (refusal.Retained n m) event

pub kept_found : (s : MarksState) (o : Owner) (n : Name) (x : Said) → Kept s (found_after s o n x)
kept_found s o n said.Clean = kept_itself s
kept_found s o n said.Empty = kept_itself s
kept_found s o n said.Open = kept_itself s
kept_found s o n (said.InTheWay a event) = in_the_way s o n a event

pub kept_cycle : (s t : MarksState) (waits : List Wait) (slots place : ℕ) (x : Told) → RefusesCycle s waits slots place x t → Kept s t
kept_cycle s t waits slots place x r = by r.0 r.3
  where
    by : (found : Option (ℕ × List TranId)) → t ≡ cycle_after s place found → Kept s t
    by None e = kept_as s t s e (kept_itself s)
    by (Some x) e = kept_as s t (offered s (owner.Slot x.0) (refusal.Deadlock x.1) place) e (kept_offered s (owner.Slot x.0) (refusal.Deadlock x.1) place)

-- ---- frames
stays_registered : (s : MarksState) (at : ℕ) (b : Bool) → Stays s (after_registered s at b)
stays_registered s at b = stays_if s _ _ (is_placed s.heads at) (λ e. stays_heads s (with_registered s.heads at b)) (λ e. stays_itself s)

pub kept_registered : (s : MarksState) (at : ℕ) (b : Bool) → Kept s (after_registered s at b)
kept_registered s at b = kept_stays s (after_registered s at b) (stays_registered s at b)

pub kept_filled : (s : MarksState) (at : ℕ) (b : Bool) → Kept s (after_filled s at b)
kept_filled s at b = kept_if s _ _ (is_placed s.heads at) (λ e. kept_heads s (with_filled s.heads at b)) (λ e. kept_itself s)

kept_write : (s : MarksState) (at : ℕ) → Kept s (after_written s at)
kept_write s at = kept_if s _ _ (is_placed s.heads at) (λ e. kept_heads s (with_registered (head_written s.heads at) at true)) (λ e. kept_itself s)

same_marked : (s : MarksState) (at : ℕ) (rank : Rank) → Same s (after_marked s at rank)
same_marked s at rank = same_if s _ _ (is_placed s.heads at) (record { log = refl; trans = refl; member = refl }) (same_itself s)

kept_freed : (s : MarksState) (at : ℕ) → Kept s (after_unregister s at)
kept_freed s at = kept_if s _ _ (nat_lt at (length s.heads.frames)) (λ e. kept_heads s (freed s.heads at)) (λ e. kept_itself s)

kept_valid : (s : MarksState) (slot place : ℕ) (full : Option (ℕ × ℕ)) → Kept s (valid_after s slot place full)
kept_valid s slot place None = kept_itself s
kept_valid s slot place (Some full) = kept_offered s (owner.Slot slot) (refusal.SpaceFull full.0 full.1) place

pub kept_read : (s : MarksState) (at : ℕ) (answer : Reply) → Kept s (read_after s at answer)
kept_read s at (reply.Granted version) = kept_itself s
kept_read s at (reply.Retained by) = kept_itself s
kept_read s at (reply.RecordsFull limit) = kept_itself s
kept_read s at (reply.Contention share exclusive version) = kept_itself s
kept_read s at (reply.Moved version) = kept_itself s
kept_read s at (reply.RetainedLock name mode) = kept_itself s
kept_read s at reply.Done = kept_itself s
kept_read s at reply.Nothing = kept_itself s
kept_read s at reply.Found = kept_after s _ _ (stays_registered s at true) (kept_filled (after_registered s at true) at true)
kept_read s at reply.NoData = kept_after s _ _ (stays_registered s at true) (kept_filled (after_registered s at true) at (frame_in (after_registered s at true).heads at).changed)
kept_read s at reply.CacheFull = kept_itself s
kept_read s at reply.Lost = kept_itself s
kept_read s at reply.Written = kept_itself s
kept_read s at reply.Valid = kept_itself s
kept_read s at reply.Invalid = kept_itself s
kept_read s at reply.Taken = kept_itself s
kept_read s at reply.NotChanged = kept_itself s
kept_read s at (reply.Locked by) = kept_itself s
kept_read s at reply.NotHeld = kept_itself s
kept_read s at (reply.ChangedPage page) = kept_itself s
kept_read s at (reply.Query query) = kept_itself s
kept_read s at reply.Gone = kept_itself s
kept_read s at reply.Cells = kept_itself s
kept_read s at reply.Waits = kept_itself s
kept_read s at reply.Raised = kept_itself s
kept_read s at reply.NotRaised = kept_itself s
kept_read s at (reply.Status status) = kept_itself s
kept_read s at reply.NotLost = kept_itself s
kept_read s at (reply.ClaimTaken by) = kept_itself s
kept_read s at reply.Claimed = kept_itself s
kept_read s at (reply.Drawn lrsn) = kept_itself s
kept_read s at (reply.Stale index) = kept_itself s
kept_read s at (reply.LrsnEnd end) = kept_itself s

pub kept_tested : (s : MarksState) (pages : List (List ℕ)) (at slot : ℕ) (gives : Option ℕ) (limit : ℕ) (answer : Reply) (place : ℕ) → Kept s (tested_after s pages at slot gives limit answer place)
kept_tested s pages at slot gives limit (reply.Granted version) place = kept_registered s at false
kept_tested s pages at slot gives limit (reply.Retained by) place = kept_registered s at false
kept_tested s pages at slot gives limit (reply.RecordsFull most) place = kept_registered s at false
kept_tested s pages at slot gives limit (reply.Contention share exclusive version) place = kept_registered s at false
kept_tested s pages at slot gives limit (reply.Moved version) place = kept_registered s at false
kept_tested s pages at slot gives limit (reply.RetainedLock name mode) place = kept_registered s at false
kept_tested s pages at slot gives limit reply.Done place = kept_registered s at false
kept_tested s pages at slot gives limit reply.Nothing place = kept_registered s at false
kept_tested s pages at slot gives limit reply.Found place = kept_registered s at false
kept_tested s pages at slot gives limit reply.NoData place = kept_registered s at false
kept_tested s pages at slot gives limit reply.CacheFull place = kept_registered s at false
kept_tested s pages at slot gives limit reply.Lost place = kept_registered s at false
kept_tested s pages at slot gives limit reply.Written place = kept_registered s at false
kept_tested s pages at slot gives limit reply.Valid place = kept_after s _ _ (stays_registered s at true) (kept_valid (after_registered s at true) slot place (full_at pages at gives limit))
kept_tested s pages at slot gives limit reply.Invalid place = kept_registered s at false
kept_tested s pages at slot gives limit reply.Taken place = kept_registered s at false
kept_tested s pages at slot gives limit reply.NotChanged place = kept_registered s at false
kept_tested s pages at slot gives limit (reply.Locked by) place = kept_registered s at false
kept_tested s pages at slot gives limit reply.NotHeld place = kept_registered s at false
kept_tested s pages at slot gives limit (reply.ChangedPage page) place = kept_registered s at false
kept_tested s pages at slot gives limit (reply.Query query) place = kept_registered s at false
kept_tested s pages at slot gives limit reply.Gone place = kept_registered s at false
kept_tested s pages at slot gives limit reply.Cells place = kept_registered s at false
kept_tested s pages at slot gives limit reply.Waits place = kept_registered s at false
kept_tested s pages at slot gives limit reply.Raised place = kept_registered s at false
kept_tested s pages at slot gives limit reply.NotRaised place = kept_registered s at false
kept_tested s pages at slot gives limit (reply.Status status) place = kept_registered s at false
kept_tested s pages at slot gives limit reply.NotLost place = kept_registered s at false
kept_tested s pages at slot gives limit (reply.ClaimTaken by) place = kept_registered s at false
kept_tested s pages at slot gives limit reply.Claimed place = kept_registered s at false
kept_tested s pages at slot gives limit (reply.Drawn lrsn) place = kept_registered s at false
kept_tested s pages at slot gives limit (reply.Stale index) place = kept_registered s at false
kept_tested s pages at slot gives limit (reply.LrsnEnd end) place = kept_registered s at false

pub kept_written : (s : MarksState) (at : ℕ) (answer : Reply) → Kept s (written_after s at answer)
kept_written s at (reply.Granted version) = kept_itself s
kept_written s at (reply.Retained by) = kept_itself s
kept_written s at (reply.RecordsFull limit) = kept_itself s
kept_written s at (reply.Contention share exclusive version) = kept_itself s
kept_written s at (reply.Moved version) = kept_itself s
kept_written s at (reply.RetainedLock name mode) = kept_itself s
kept_written s at reply.Done = kept_itself s
kept_written s at reply.Nothing = kept_itself s
kept_written s at reply.Found = kept_itself s
kept_written s at reply.NoData = kept_itself s
kept_written s at reply.CacheFull = kept_itself s
kept_written s at reply.Lost = kept_itself s
kept_written s at reply.Written = kept_write s at
kept_written s at reply.Valid = kept_itself s
kept_written s at reply.Invalid = kept_itself s
kept_written s at reply.Taken = kept_itself s
kept_written s at reply.NotChanged = kept_itself s
kept_written s at (reply.Locked by) = kept_itself s
kept_written s at reply.NotHeld = kept_itself s
kept_written s at (reply.ChangedPage page) = kept_itself s
kept_written s at (reply.Query query) = kept_itself s
kept_written s at reply.Gone = kept_itself s
kept_written s at reply.Cells = kept_itself s
kept_written s at reply.Waits = kept_itself s
kept_written s at reply.Raised = kept_itself s
kept_written s at reply.NotRaised = kept_itself s
kept_written s at (reply.Status status) = kept_itself s
kept_written s at reply.NotLost = kept_itself s
kept_written s at (reply.ClaimTaken by) = kept_itself s
kept_written s at reply.Claimed = kept_itself s
kept_written s at (reply.Drawn lrsn) = kept_itself s
kept_written s at (reply.Stale index) = kept_itself s
kept_written s at (reply.LrsnEnd end) = kept_itself s

pub kept_unregistered : (s : MarksState) (at : ℕ) (answer : Reply) → Kept s (unregistered_after s at answer)
kept_unregistered s at (reply.Granted version) = kept_itself s
kept_unregistered s at (reply.Retained by) = kept_itself s
kept_unregistered s at (reply.RecordsFull limit) = kept_itself s
kept_unregistered s at (reply.Contention share exclusive version) = kept_itself s
kept_unregistered s at (reply.Moved version) = kept_itself s
kept_unregistered s at (reply.RetainedLock name mode) = kept_itself s
kept_unregistered s at reply.Done = kept_freed s at
kept_unregistered s at reply.Nothing = kept_itself s
kept_unregistered s at reply.Found = kept_itself s
kept_unregistered s at reply.NoData = kept_itself s
kept_unregistered s at reply.CacheFull = kept_itself s
kept_unregistered s at reply.Lost = kept_itself s
kept_unregistered s at reply.Written = kept_itself s
kept_unregistered s at reply.Valid = kept_itself s
kept_unregistered s at reply.Invalid = kept_itself s
kept_unregistered s at reply.Taken = kept_itself s
kept_unregistered s at reply.NotChanged = kept_itself s
kept_unregistered s at (reply.Locked by) = kept_itself s
kept_unregistered s at reply.NotHeld = kept_itself s
kept_unregistered s at (reply.ChangedPage page) = kept_itself s
kept_unregistered s at (reply.Query query) = kept_itself s
kept_unregistered s at reply.Gone = kept_itself s
kept_unregistered s at reply.Cells = kept_itself s
kept_unregistered s at reply.Waits = kept_itself s
kept_unregistered s at reply.Raised = kept_itself s
kept_unregistered s at reply.NotRaised = kept_itself s
kept_unregistered s at (reply.Status status) = kept_itself s
kept_unregistered s at reply.NotLost = kept_itself s
kept_unregistered s at (reply.ClaimTaken by) = kept_itself s
kept_unregistered s at reply.Claimed = kept_itself s
kept_unregistered s at (reply.Drawn lrsn) = kept_itself s
kept_unregistered s at (reply.Stale index) = kept_itself s
kept_unregistered s at (reply.LrsnEnd end) = kept_itself s

pub kept_purged : (s : MarksState) (n : Name) (answer : Reply) → Kept s (purged_after s n answer)
kept_purged s n (reply.Granted version) = kept_itself s
kept_purged s n (reply.Retained by) = kept_itself s
kept_purged s n (reply.RecordsFull limit) = kept_itself s
kept_purged s n (reply.Contention share exclusive version) = kept_itself s
kept_purged s n (reply.Moved version) = kept_itself s
kept_purged s n (reply.RetainedLock name mode) = kept_itself s
kept_purged s n reply.Done = kept_names s (without_name s.kept n)
kept_purged s n reply.Nothing = kept_itself s
kept_purged s n reply.Found = kept_itself s
kept_purged s n reply.NoData = kept_itself s
kept_purged s n reply.CacheFull = kept_itself s
kept_purged s n reply.Lost = kept_itself s
kept_purged s n reply.Written = kept_itself s
kept_purged s n reply.Valid = kept_itself s
kept_purged s n reply.Invalid = kept_itself s
kept_purged s n reply.Taken = kept_itself s
kept_purged s n reply.NotChanged = kept_itself s
kept_purged s n (reply.Locked by) = kept_itself s
kept_purged s n reply.NotHeld = kept_itself s
kept_purged s n (reply.ChangedPage page) = kept_itself s
kept_purged s n (reply.Query query) = kept_itself s
kept_purged s n reply.Gone = kept_itself s
kept_purged s n reply.Cells = kept_itself s
kept_purged s n reply.Waits = kept_itself s
kept_purged s n reply.Raised = kept_itself s
kept_purged s n reply.NotRaised = kept_itself s
kept_purged s n (reply.Status status) = kept_itself s
kept_purged s n reply.NotLost = kept_itself s
kept_purged s n (reply.ClaimTaken by) = kept_itself s
kept_purged s n reply.Claimed = kept_itself s
kept_purged s n (reply.Drawn lrsn) = kept_itself s
kept_purged s n (reply.Stale index) = kept_itself s
kept_purged s n (reply.LrsnEnd at) = kept_itself s

-- ---- changes
-- a number that is drawn is above this one
abbrev pub IsAbove : ℕ → Reply → Type 0
IsAbove low (reply.Drawn lrsn) = low < lrsn
IsAbove low _ = Unit {0}

abbrev pub SameBytes : bytes.Kept → bytes.Kept → Type 0
SameBytes k l = Same k.marks l.marks

patched_at : (k : bytes.Kept) (at : ℕ) (o : Option PageId) (ps : List Patch) (lrsn : ℕ) → SameBytes k (patched_page k at o ps lrsn)
patched_at k at None ps lrsn = same_itself k.marks
patched_at k at (Some id) ps lrsn = cond_both (nat_lt at (length k.pages)) (put_page k at id (written id lrsn ps (bytes_at k.pages at))) k (λ z. SameBytes k z)
    (λ e. same_marked k.marks at (rank_of id (bytes_at (slice_set k.pages at (written id lrsn ps (bytes_at k.pages at))) at))) (λ e. same_itself k.marks)

patched_in : (k : bytes.Kept) (o : Option ℕ) (ps : List Patch) (lrsn : ℕ) → SameBytes k (patched_nth k o ps lrsn)
patched_in k None ps lrsn = same_itself k.marks
patched_in k (Some at) ps lrsn = patched_at k at (frame_in k.marks.heads at).page ps lrsn

patched_all : (k : bytes.Kept) (frames : Frames) (ps : List Patch) (lrsn : ℕ) → SameBytes k (patched_frames k frames ps lrsn)
patched_all k frames ps lrsn =
    let one = patched_nth k (frame_of frames 0) ps lrsn in
    let two = patched_nth one (frame_of frames 1) ps lrsn in
    let last = patched_nth two (frame_of frames 2) ps lrsn in
    same_on k.marks two.marks last.marks (same_on k.marks one.marks two.marks (patched_in k (frame_of frames 0) ps lrsn) (patched_in one (frame_of frames 1) ps lrsn)) (patched_in two (frame_of frames 2) ps lrsn)

row_at : (k : bytes.Kept) (at : ℕ) (o : Option PageId) (c : RowChange) (lrsn : ℕ) → SameBytes k (row_page k at o c lrsn)
row_at k at None c lrsn = same_itself k.marks
row_at k at (Some id) c lrsn = cond_both (nat_lt at (length k.pages)) (put_page k at id (after_row lrsn c (bytes_at k.pages at))) k (λ z. SameBytes k z)
    (λ e. same_marked k.marks at (rank_of id (bytes_at (slice_set k.pages at (after_row lrsn c (bytes_at k.pages at))) at))) (λ e. same_itself k.marks)

row_in : (k : bytes.Kept) (o : Option ℕ) (c : RowChange) (lrsn : ℕ) → SameBytes k (row_nth k o c lrsn)
row_in k None c lrsn = same_itself k.marks
row_in k (Some at) c lrsn = row_at k at (frame_in k.marks.heads at).page c lrsn

-- the records that are put behind it are those of the begin
change_same : (s u : MarksState) (slot : ℕ) (p : Plan) (lrsn : ℕ) → Same s u → change_records u.log (slot_tran u slot) p lrsn ≡ change_records s.log (slot_tran s slot) p lrsn
change_same s u slot p lrsn e = ap (λ (z : LogBuffer). change_records z (slot_tran u slot) p lrsn) e.log ∙ ap (λ (z : TransState). change_records s.log (tran_in z (owner.Slot slot)) p lrsn) e.trans

undo_same : (s u : MarksState) (o : Owner) (p : Plan) (lrsn : ℕ) → Same s u → undo_records u.log (tran_of u o) p lrsn ≡ undo_records s.log (tran_of s o) p lrsn
undo_same s u o p lrsn e = ap (λ (z : LogBuffer). undo_records z (tran_of u o) p lrsn) e.log ∙ ap (λ (z : TransState). undo_records s.log (tran_in z o) p lrsn) e.trans

-- what a row change that was planned gives
pub record Gives (k l : bytes.Kept) (slot : ℕ) (p : Plan) (id : ℕ) (x : Spot) : Type 0 where
  pub change : RowChange
  pub planned : p ≡ plan.Row change
  pub row : (change.table, change.key) ≡ x
  pub named : (tran_in l.marks.trans (owner.Slot slot)).first ≡ id

kept_changed : BothTell → (G : ℕ → Spot → Type 0) (k : bytes.Kept) (slot : ℕ) (frames : Frames) (p : Plan) (lrsn : ℕ) → is_forward (tran_in k.marks.trans (owner.Slot slot)).stage ≡ true → ((id : ℕ) (x : Spot) → Gives k (changed_by k slot frames p lrsn) slot p id x → G id x)
    → PutsRows G k.marks (changed_by k slot frames p lrsn).marks (change_records k.marks.log (slot_tran k.marks slot) p lrsn)
kept_changed law G k slot frames plan.None lrsn forward give = puts_kept G k.marks k.marks (kept_itself k.marks)
kept_changed law G k slot frames (plan.System ps) lrsn forward give =
    let same = patched_all k frames ps lrsn in
    let mid : MarksState = (patched_frames k frames ps lrsn).marks in
    puts_adds G k.marks _ _ (adds_these k.marks _ _ _ (change_same k.marks mid slot (plan.System ps) lrsn same) (adds_after k.marks mid _ _ (stays_same k.marks mid same) (adds_system law mid slot ps lrsn)))
kept_changed law G k slot frames (plan.Row c) lrsn forward give =
    let same = row_in k (frame_of frames 0) c lrsn in
    let mid : MarksState = (row_nth k (frame_of frames 0) c lrsn).marks in
    let going : is_forward (tran_in mid.trans (owner.Slot slot)).stage ≡ true = subst (λ (z : TransState). is_forward (tran_in z (owner.Slot slot)).stage ≡ true) (sym same.trans) forward in
    puts_these G k.marks (after_change mid slot lrsn c) _ _ (change_same k.marks mid slot (plan.Row c) lrsn same)
    (puts_after G k.marks mid (after_change mid slot lrsn c) _ (stays_same k.marks mid same)
    (puts_change law G mid slot lrsn c going (λ may. give _ _ (record { change = c; planned = refl; row = refl; named = changed_name mid slot lrsn c going may }))))
kept_changed law G k slot frames (plan.Back c) lrsn forward give = puts_kept G k.marks k.marks (kept_itself k.marks)
kept_changed law G k slot frames (plan.Fault page at) lrsn forward give = puts_kept G k.marks k.marks (kept_itself k.marks)

kept_back : BothTell → (k : bytes.Kept) (o : Owner) (at : ℕ) (p : Plan) (lrsn : ℕ) → k.marks.log.stable < lrsn → is_undoing (tran_in k.marks.trans o).stage ≡ true
    → Adds k.marks (back_by k o at p lrsn).marks (undo_records k.marks.log (tran_of k.marks o) p lrsn)
kept_back law k o at plan.None lrsn above undoing = kept_itself k.marks
kept_back law k o at (plan.System ps) lrsn above undoing = kept_itself k.marks
kept_back law k o at (plan.Row c) lrsn above undoing = kept_itself k.marks
kept_back law k o at (plan.Back c) lrsn above undoing =
    let same = row_at k at (frame_in k.marks.heads at).page c lrsn in
    let mid : MarksState = (row_frame k at c lrsn).marks in
    adds_these k.marks _ _ _ (undo_same k.marks mid o (plan.Back c) lrsn same) (adds_after k.marks mid _ _ (stays_same k.marks mid same)
    (adds_undo law mid o lrsn (subst (λ (z : LogBuffer). z.stable < lrsn) (sym same.log) above) (subst (λ (z : TransState). is_undoing (tran_in z o).stage ≡ true) (sym same.trans) undoing)))
kept_back law k o at (plan.Fault page offset) lrsn above undoing = kept_itself k.marks

kept_undrawn : (s : MarksState) (o : Owner) (answer : Reply) (place : ℕ) → Kept s (undrawn_after s o answer place)
kept_undrawn s o (reply.Granted version) place = kept_itself s
kept_undrawn s o (reply.Retained by) place = kept_itself s
kept_undrawn s o (reply.RecordsFull limit) place = kept_itself s
kept_undrawn s o (reply.Contention share exclusive version) place = kept_itself s
kept_undrawn s o (reply.Moved version) place = kept_itself s
kept_undrawn s o (reply.RetainedLock name mode) place = kept_itself s
kept_undrawn s o reply.Done place = kept_itself s
kept_undrawn s o reply.Nothing place = kept_itself s
kept_undrawn s o reply.Found place = kept_itself s
kept_undrawn s o reply.NoData place = kept_itself s
kept_undrawn s o reply.CacheFull place = kept_itself s
kept_undrawn s o reply.Lost place = kept_itself s
kept_undrawn s o reply.Written place = kept_itself s
kept_undrawn s o reply.Valid place = kept_itself s
kept_undrawn s o reply.Invalid place = kept_itself s
kept_undrawn s o reply.Taken place = kept_itself s
kept_undrawn s o reply.NotChanged place = kept_itself s
kept_undrawn s o (reply.Locked by) place = kept_itself s
kept_undrawn s o reply.NotHeld place = kept_itself s
kept_undrawn s o (reply.ChangedPage page) place = kept_itself s
kept_undrawn s o (reply.Query query) place = kept_itself s
kept_undrawn s o reply.Gone place = kept_itself s
kept_undrawn s o reply.Cells place = kept_itself s
kept_undrawn s o reply.Waits place = kept_itself s
kept_undrawn s o reply.Raised place = kept_itself s
kept_undrawn s o reply.NotRaised place = kept_itself s
kept_undrawn s o (reply.Status status) place = kept_itself s
kept_undrawn s o reply.NotLost place = kept_itself s
kept_undrawn s o (reply.ClaimTaken by) place = kept_itself s
kept_undrawn s o reply.Claimed place = kept_itself s
kept_undrawn s o (reply.Drawn lrsn) place = kept_itself s
kept_undrawn s o (reply.Stale index) place = kept_registered s index false
kept_undrawn s o (reply.LrsnEnd at) place = kept_offered s o (refusal.LrsnEnd at) place

pub kept_drawn : BothTell → (G : ℕ → Spot → Type 0) (k : bytes.Kept) (slot : ℕ) (frames : Frames) (p : Plan) (answer : Reply) (place : ℕ) → is_forward (tran_in k.marks.trans (owner.Slot slot)).stage ≡ true
    → ((id : ℕ) (x : Spot) → Gives k (drawn_after k slot frames p answer place) slot p id x → G id x) → PutsRows G k.marks (drawn_after k slot frames p answer place).marks (drawn_by answer (change_records k.marks.log (slot_tran k.marks slot) p))
kept_drawn law G k slot frames p (reply.Granted version) place forward give = puts_kept G k.marks _ (kept_undrawn k.marks (owner.Slot slot) (reply.Granted version) place)
kept_drawn law G k slot frames p (reply.Retained by) place forward give = puts_kept G k.marks _ (kept_undrawn k.marks (owner.Slot slot) (reply.Retained by) place)
kept_drawn law G k slot frames p (reply.RecordsFull limit) place forward give = puts_kept G k.marks _ (kept_undrawn k.marks (owner.Slot slot) (reply.RecordsFull limit) place)
kept_drawn law G k slot frames p (reply.Contention share exclusive version) place forward give = puts_kept G k.marks _ (kept_undrawn k.marks (owner.Slot slot) (reply.Contention share exclusive version) place)
kept_drawn law G k slot frames p (reply.Moved version) place forward give = puts_kept G k.marks _ (kept_undrawn k.marks (owner.Slot slot) (reply.Moved version) place)
kept_drawn law G k slot frames p (reply.RetainedLock name mode) place forward give = puts_kept G k.marks _ (kept_undrawn k.marks (owner.Slot slot) (reply.RetainedLock name mode) place)
kept_drawn law G k slot frames p reply.Done place forward give = puts_kept G k.marks _ (kept_undrawn k.marks (owner.Slot slot) reply.Done place)
kept_drawn law G k slot frames p reply.Nothing place forward give = puts_kept G k.marks _ (kept_undrawn k.marks (owner.Slot slot) reply.Nothing place)
kept_drawn law G k slot frames p reply.Found place forward give = puts_kept G k.marks _ (kept_undrawn k.marks (owner.Slot slot) reply.Found place)
kept_drawn law G k slot frames p reply.NoData place forward give = puts_kept G k.marks _ (kept_undrawn k.marks (owner.Slot slot) reply.NoData place)
kept_drawn law G k slot frames p reply.CacheFull place forward give = puts_kept G k.marks _ (kept_undrawn k.marks (owner.Slot slot) reply.CacheFull place)
kept_drawn law G k slot frames p reply.Lost place forward give = puts_kept G k.marks _ (kept_undrawn k.marks (owner.Slot slot) reply.Lost place)
kept_drawn law G k slot frames p reply.Written place forward give = puts_kept G k.marks _ (kept_undrawn k.marks (owner.Slot slot) reply.Written place)
kept_drawn law G k slot frames p reply.Valid place forward give = puts_kept G k.marks _ (kept_undrawn k.marks (owner.Slot slot) reply.Valid place)
kept_drawn law G k slot frames p reply.Invalid place forward give = puts_kept G k.marks _ (kept_undrawn k.marks (owner.Slot slot) reply.Invalid place)
kept_drawn law G k slot frames p reply.Taken place forward give = puts_kept G k.marks _ (kept_undrawn k.marks (owner.Slot slot) reply.Taken place)
kept_drawn law G k slot frames p reply.NotChanged place forward give = puts_kept G k.marks _ (kept_undrawn k.marks (owner.Slot slot) reply.NotChanged place)
kept_drawn law G k slot frames p (reply.Locked by) place forward give = puts_kept G k.marks _ (kept_undrawn k.marks (owner.Slot slot) (reply.Locked by) place)
kept_drawn law G k slot frames p reply.NotHeld place forward give = puts_kept G k.marks _ (kept_undrawn k.marks (owner.Slot slot) reply.NotHeld place)
kept_drawn law G k slot frames p (reply.ChangedPage page) place forward give = puts_kept G k.marks _ (kept_undrawn k.marks (owner.Slot slot) (reply.ChangedPage page) place)
kept_drawn law G k slot frames p (reply.Query query) place forward give = puts_kept G k.marks _ (kept_undrawn k.marks (owner.Slot slot) (reply.Query query) place)
kept_drawn law G k slot frames p reply.Gone place forward give = puts_kept G k.marks _ (kept_undrawn k.marks (owner.Slot slot) reply.Gone place)
kept_drawn law G k slot frames p reply.Cells place forward give = puts_kept G k.marks _ (kept_undrawn k.marks (owner.Slot slot) reply.Cells place)
kept_drawn law G k slot frames p reply.Waits place forward give = puts_kept G k.marks _ (kept_undrawn k.marks (owner.Slot slot) reply.Waits place)
kept_drawn law G k slot frames p reply.Raised place forward give = puts_kept G k.marks _ (kept_undrawn k.marks (owner.Slot slot) reply.Raised place)
kept_drawn law G k slot frames p reply.NotRaised place forward give = puts_kept G k.marks _ (kept_undrawn k.marks (owner.Slot slot) reply.NotRaised place)
kept_drawn law G k slot frames p (reply.Status status) place forward give = puts_kept G k.marks _ (kept_undrawn k.marks (owner.Slot slot) (reply.Status status) place)
kept_drawn law G k slot frames p reply.NotLost place forward give = puts_kept G k.marks _ (kept_undrawn k.marks (owner.Slot slot) reply.NotLost place)
kept_drawn law G k slot frames p (reply.ClaimTaken by) place forward give = puts_kept G k.marks _ (kept_undrawn k.marks (owner.Slot slot) (reply.ClaimTaken by) place)
kept_drawn law G k slot frames p reply.Claimed place forward give = puts_kept G k.marks _ (kept_undrawn k.marks (owner.Slot slot) reply.Claimed place)
kept_drawn law G k slot frames p (reply.Drawn lrsn) place forward give = kept_changed law G k slot frames p lrsn forward give
kept_drawn law G k slot frames p (reply.Stale index) place forward give = puts_kept G k.marks _ (kept_undrawn k.marks (owner.Slot slot) (reply.Stale index) place)
kept_drawn law G k slot frames p (reply.LrsnEnd at) place forward give = puts_kept G k.marks _ (kept_undrawn k.marks (owner.Slot slot) (reply.LrsnEnd at) place)

pub kept_undone : BothTell → (k : bytes.Kept) (o : Owner) (at : ℕ) (p : Plan) (answer : Reply) (place : ℕ) → IsAbove k.marks.log.stable answer → is_undoing (tran_in k.marks.trans o).stage ≡ true
    → Adds k.marks (undone_after k o at p answer place).marks (drawn_by answer (undo_records k.marks.log (tran_of k.marks o) p))
kept_undone law k o at p (reply.Granted version) place above undoing = kept_undrawn k.marks o (reply.Granted version) place
kept_undone law k o at p (reply.Retained by) place above undoing = kept_undrawn k.marks o (reply.Retained by) place
kept_undone law k o at p (reply.RecordsFull limit) place above undoing = kept_undrawn k.marks o (reply.RecordsFull limit) place
kept_undone law k o at p (reply.Contention share exclusive version) place above undoing = kept_undrawn k.marks o (reply.Contention share exclusive version) place
kept_undone law k o at p (reply.Moved version) place above undoing = kept_undrawn k.marks o (reply.Moved version) place
kept_undone law k o at p (reply.RetainedLock name mode) place above undoing = kept_undrawn k.marks o (reply.RetainedLock name mode) place
kept_undone law k o at p reply.Done place above undoing = kept_undrawn k.marks o reply.Done place
kept_undone law k o at p reply.Nothing place above undoing = kept_undrawn k.marks o reply.Nothing place
kept_undone law k o at p reply.Found place above undoing = kept_undrawn k.marks o reply.Found place
kept_undone law k o at p reply.NoData place above undoing = kept_undrawn k.marks o reply.NoData place
kept_undone law k o at p reply.CacheFull place above undoing = kept_undrawn k.marks o reply.CacheFull place
kept_undone law k o at p reply.Lost place above undoing = kept_undrawn k.marks o reply.Lost place
kept_undone law k o at p reply.Written place above undoing = kept_undrawn k.marks o reply.Written place
kept_undone law k o at p reply.Valid place above undoing = kept_undrawn k.marks o reply.Valid place
kept_undone law k o at p reply.Invalid place above undoing = kept_undrawn k.marks o reply.Invalid place
kept_undone law k o at p reply.Taken place above undoing = kept_undrawn k.marks o reply.Taken place
kept_undone law k o at p reply.NotChanged place above undoing = kept_undrawn k.marks o reply.NotChanged place
kept_undone law k o at p (reply.Locked by) place above undoing = kept_undrawn k.marks o (reply.Locked by) place
kept_undone law k o at p reply.NotHeld place above undoing = kept_undrawn k.marks o reply.NotHeld place
kept_undone law k o at p (reply.ChangedPage page) place above undoing = kept_undrawn k.marks o (reply.ChangedPage page) place
kept_undone law k o at p (reply.Query query) place above undoing = kept_undrawn k.marks o (reply.Query query) place
kept_undone law k o at p reply.Gone place above undoing = kept_undrawn k.marks o reply.Gone place
kept_undone law k o at p reply.Cells place above undoing = kept_undrawn k.marks o reply.Cells place
kept_undone law k o at p reply.Waits place above undoing = kept_undrawn k.marks o reply.Waits place
kept_undone law k o at p reply.Raised place above undoing = kept_undrawn k.marks o reply.Raised place
kept_undone law k o at p reply.NotRaised place above undoing = kept_undrawn k.marks o reply.NotRaised place
kept_undone law k o at p (reply.Status status) place above undoing = kept_undrawn k.marks o (reply.Status status) place
kept_undone law k o at p reply.NotLost place above undoing = kept_undrawn k.marks o reply.NotLost place
kept_undone law k o at p (reply.ClaimTaken by) place above undoing = kept_undrawn k.marks o (reply.ClaimTaken by) place
kept_undone law k o at p reply.Claimed place above undoing = kept_undrawn k.marks o reply.Claimed place
kept_undone law k o at p (reply.Drawn lrsn) place above undoing = kept_back law k o at p lrsn above undoing
kept_undone law k o at p (reply.Stale index) place above undoing = kept_undrawn k.marks o (reply.Stale index) place
kept_undone law k o at p (reply.LrsnEnd end) place above undoing = kept_undrawn k.marks o (reply.LrsnEnd end) place

pub kept_committed : BothTell → (s : MarksState) (slot : ℕ) (answer : Reply) (place : ℕ) → is_forward (tran_in s.trans (owner.Slot slot)).stage ≡ true
    → Adds s (committed_after s slot answer place) (drawn_by answer (commit_records s.log (slot_tran s slot)))
kept_committed law s slot (reply.Granted version) place forward = kept_undrawn s (owner.Slot slot) (reply.Granted version) place
kept_committed law s slot (reply.Retained by) place forward = kept_undrawn s (owner.Slot slot) (reply.Retained by) place
kept_committed law s slot (reply.RecordsFull limit) place forward = kept_undrawn s (owner.Slot slot) (reply.RecordsFull limit) place
kept_committed law s slot (reply.Contention share exclusive version) place forward = kept_undrawn s (owner.Slot slot) (reply.Contention share exclusive version) place
kept_committed law s slot (reply.Moved version) place forward = kept_undrawn s (owner.Slot slot) (reply.Moved version) place
kept_committed law s slot (reply.RetainedLock name mode) place forward = kept_undrawn s (owner.Slot slot) (reply.RetainedLock name mode) place
kept_committed law s slot reply.Done place forward = kept_undrawn s (owner.Slot slot) reply.Done place
kept_committed law s slot reply.Nothing place forward = kept_undrawn s (owner.Slot slot) reply.Nothing place
kept_committed law s slot reply.Found place forward = kept_undrawn s (owner.Slot slot) reply.Found place
kept_committed law s slot reply.NoData place forward = kept_undrawn s (owner.Slot slot) reply.NoData place
kept_committed law s slot reply.CacheFull place forward = kept_undrawn s (owner.Slot slot) reply.CacheFull place
kept_committed law s slot reply.Lost place forward = kept_undrawn s (owner.Slot slot) reply.Lost place
kept_committed law s slot reply.Written place forward = kept_undrawn s (owner.Slot slot) reply.Written place
kept_committed law s slot reply.Valid place forward = kept_undrawn s (owner.Slot slot) reply.Valid place
kept_committed law s slot reply.Invalid place forward = kept_undrawn s (owner.Slot slot) reply.Invalid place
kept_committed law s slot reply.Taken place forward = kept_undrawn s (owner.Slot slot) reply.Taken place
kept_committed law s slot reply.NotChanged place forward = kept_undrawn s (owner.Slot slot) reply.NotChanged place
kept_committed law s slot (reply.Locked by) place forward = kept_undrawn s (owner.Slot slot) (reply.Locked by) place
kept_committed law s slot reply.NotHeld place forward = kept_undrawn s (owner.Slot slot) reply.NotHeld place
kept_committed law s slot (reply.ChangedPage page) place forward = kept_undrawn s (owner.Slot slot) (reply.ChangedPage page) place
kept_committed law s slot (reply.Query query) place forward = kept_undrawn s (owner.Slot slot) (reply.Query query) place
kept_committed law s slot reply.Gone place forward = kept_undrawn s (owner.Slot slot) reply.Gone place
kept_committed law s slot reply.Cells place forward = kept_undrawn s (owner.Slot slot) reply.Cells place
kept_committed law s slot reply.Waits place forward = kept_undrawn s (owner.Slot slot) reply.Waits place
kept_committed law s slot reply.Raised place forward = kept_undrawn s (owner.Slot slot) reply.Raised place
kept_committed law s slot reply.NotRaised place forward = kept_undrawn s (owner.Slot slot) reply.NotRaised place
kept_committed law s slot (reply.Status status) place forward = kept_undrawn s (owner.Slot slot) (reply.Status status) place
kept_committed law s slot reply.NotLost place forward = kept_undrawn s (owner.Slot slot) reply.NotLost place
kept_committed law s slot (reply.ClaimTaken by) place forward = kept_undrawn s (owner.Slot slot) (reply.ClaimTaken by) place
kept_committed law s slot reply.Claimed place forward = kept_undrawn s (owner.Slot slot) reply.Claimed place
kept_committed law s slot (reply.Drawn lrsn) place forward = adds_commit law s slot lrsn forward
kept_committed law s slot (reply.Stale index) place forward = kept_undrawn s (owner.Slot slot) (reply.Stale index) place
kept_committed law s slot (reply.LrsnEnd at) place forward = kept_undrawn s (owner.Slot slot) (reply.LrsnEnd at) place
