-- The numbers behind the reply to an intent.
use Rattle.std.proofs.Common.{◌≡◌, ℕ, refl, sym, ◌∙◌, ap, subst, arith, Bool, true, false, List, Option, Some, None}
use Rattle.std.specs.Prelude.{nat_lt, is_some, length, slice_set}
use Rattle.std.proofs.lemmas.Bool.{cond_both}
use Rattle.ds_base.specs.declared.names.PageId.{PageId}
use Rattle.ds_base.specs.declared.names.TranId.{TranId}
use Rattle.ds_model.specs.declared.fate.Refusal.{Refusal}
use Rattle.ds_model.specs.declared.fate.Refusal.TheVariants as refusal
use Rattle.ds_model.specs.declared.lock.Name.{Name}
use Rattle.ds_model.specs.declared.lock.Name.TheVariants as name
use Rattle.ds_model.specs.declared.log.RowChange.{RowChange}
use Rattle.page_format.specs.declared.patch.Patch.{Patch}
use Rattle.heap_space.specs.Written.{written}
use Rattle.write_order.specs.declared.rank.Rank.{Rank}
use Rattle.write_order.specs.Ranks.{rank_of}
use Rattle.page_plans.specs.Rows.{after_row}
use Rattle.lock_names.specs.declared.mode.Mode.{Mode}
use Rattle.lock_manager.specs.declared.claim.Ask.{Ask}
use Rattle.lock_manager.specs.declared.claim.Ask.TheVariants as ask
use Rattle.lock_manager.specs.Managers.{Book, after_page_release, after_postponed_release, after_release, ask_of, given}
use Rattle.list_structure.specs.declared.query.CellAnswer.{CellAnswer}
use Rattle.list_structure.specs.declared.query.CellAnswer.TheVariants as cell_answer
use Rattle.list_structure.specs.declared.wait.Wait.{Wait}
use Rattle.facility.specs.declared.command.Reply.{Reply}
use Rattle.facility.specs.declared.command.Reply.TheVariants as reply
use Rattle.member_intents.specs.declared.intent.Frames.{Frames}
use Rattle.member_pool.specs.Heads.{freed, written as head_written}
use Rattle.member_trans.specs.declared.fate.Owner.{Owner}
use Rattle.member_trans.specs.declared.fate.Owner.TheVariants as owner
use Rattle.member_trans.specs.Trans.{TransState, free_tran, is_forward, place_of, rollback_ended, tran_at, with_released}
use Rattle.member_marks.specs.Claims.{PageEntered, after_end_of, after_release_of, entered, entered_as, has_page, has_spare, is_agent, is_for_agents, lock_place, may_claim, may_enter_page, noted_released, offered, rollback_over, rollback_releasing}
use Rattle.member_marks.specs.Frames.{after_filled, after_marked, after_registered, frame_in, is_placed, with_filled, with_registered}
use Rattle.member_marks.specs.Names.{without_name}
use Rattle.member_marks.specs.State.{MarksState, slot_id, slot_tran, tran_of, with_locks}
use Rattle.member_needs.specs.declared.plans.Plan.{Plan}
use Rattle.member_needs.specs.declared.plans.Plan.TheVariants as plan
use Rattle.member_needs.specs.Records.{frame_of}
use Rattle.member_effects.specs.declared.answers.Said.{Said}
use Rattle.member_effects.specs.declared.answers.Said.TheVariants as said
use Rattle.member_effects.specs.declared.told.Told.{Told}
use Rattle.member_effects.specs.Answers.{found_after, in_the_way_after}
use Rattle.member_effects.specs.Changes.{back_by, bytes_at, changed_by, committed_after, drawn_after, patched_frames, patched_nth, patched_page, put_page, row_frame, row_nth, row_page, undone_after, undrawn_after}
use Rattle.member_effects.specs.Claims.{Claims, Enters, EntersPage, agent_entered, refused_after}
use Rattle.member_effects.specs.Closing.{ended_after, page_released_after, purged_after, released_after}
use Rattle.member_effects.specs.Cycles.{RefusesCycle, cycle_after}
use Rattle.member_effects.specs.Frames.{full_at, read_after, tested_after, unregistered_after, valid_after, written_after}
use Rattle.member_effects.specs.Kept.{Kept}
use Rattle.log_numbers.proofs.Lists.{removed_named}
use Rattle.log_numbers.proofs.Records.{draws_change, draws_commit, draws_system, draws_undo, owner_like, slot_none}
use Rattle.log_numbers.proofs.Stays.{Draws, Fewer, Stays, draws_after, draws_stays, fewer_itself, fewer_same, stays_as, stays_fewer, stays_heads, stays_if, stays_itself, stays_locks, stays_names, stays_on, stays_same}

-- ---- refusals
pub stays_offered : (s : MarksState) (o : Owner) (r : Refusal) (place : ℕ) → Stays s (offered s o r place)
stays_offered s o r place = stays_fewer s (offered s o r place) refl (fewer_same s.trans _ refl refl)

in_the_way : (s : MarksState) (o : Owner) (n : Name) (a : CellAnswer) (event : ℕ) → Stays s (in_the_way_after s o n a event)
in_the_way s o n cell_answer.Clean event = stays_itself s
in_the_way s o n (cell_answer.Conflict by) event = stays_offered s o (refusal.Held n by) event
in_the_way s o n (cell_answer.Postponed m) event = stays_offered s o (refusal.Retained n m) event

pub stays_found : (s : MarksState) (o : Owner) (n : Name) (x : Said) → Stays s (found_after s o n x)
stays_found s o n said.Clean = stays_itself s
stays_found s o n said.Empty = stays_itself s
stays_found s o n said.Open = stays_itself s
stays_found s o n (said.InTheWay a event) = in_the_way s o n a event

pub stays_cycle : (s t : MarksState) (waits : List Wait) (slots place : ℕ) (x : Told) → RefusesCycle s waits slots place x t → Stays s t
stays_cycle s t waits slots place x r = by r.0 r.3
  where
    by : (found : Option (ℕ × List TranId)) → t ≡ cycle_after s place found → Stays s t
    by None e = stays_as s t s e (stays_itself s)
    by (Some x) e = stays_as s t (offered s (owner.Slot x.0) (refusal.Deadlock x.1) place) e (stays_offered s (owner.Slot x.0) (refusal.Deadlock x.1) place)

-- ---- frames
stays_registered : (s : MarksState) (at : ℕ) (b : Bool) → Stays s (after_registered s at b)
stays_registered s at b = stays_if s _ _ (is_placed s.heads at) (stays_heads s (with_registered s.heads at b)) (stays_itself s)

pub stays_filled : (s : MarksState) (at : ℕ) (b : Bool) → Stays s (after_filled s at b)
stays_filled s at b = stays_if s _ _ (is_placed s.heads at) (stays_heads s (with_filled s.heads at b)) (stays_itself s)

stays_marked : (s : MarksState) (at : ℕ) (rank : Rank) → Stays s (after_marked s at rank)
stays_marked s at rank = stays_if s _ _ (is_placed s.heads at) (stays_same s _ refl refl) (stays_itself s)

stays_valid : (s : MarksState) (slot place : ℕ) (full : Option (ℕ × ℕ)) → Stays s (valid_after s slot place full)
stays_valid s slot place None = stays_itself s
stays_valid s slot place (Some full) = stays_offered s (owner.Slot slot) (refusal.SpaceFull full.0 full.1) place

pub stays_read : (s : MarksState) (at : ℕ) (answer : Reply) → Stays s (read_after s at answer)
stays_read s at reply.Found = stays_on s _ _ (stays_registered s at true) (stays_filled (after_registered s at true) at true)
stays_read s at reply.NoData = stays_on s _ _ (stays_registered s at true) (stays_filled (after_registered s at true) at (frame_in (after_registered s at true).heads at).changed)
stays_read s at _ = stays_itself s

pub stays_tested : (s : MarksState) (pages : List (List ℕ)) (at slot : ℕ) (gives : Option ℕ) (limit : ℕ) (answer : Reply) (place : ℕ) → Stays s (tested_after s pages at slot gives limit answer place)
stays_tested s pages at slot gives limit reply.Valid place = stays_on s _ _ (stays_registered s at true) (stays_valid (after_registered s at true) slot place (full_at pages at gives limit))
stays_tested s pages at slot gives limit _ place = stays_registered s at false

pub stays_written : (s : MarksState) (at : ℕ) (answer : Reply) → Stays s (written_after s at answer)
stays_written s at reply.Written = stays_if s _ _ (is_placed s.heads at) (stays_heads s (with_registered (head_written s.heads at) at true)) (stays_itself s)
stays_written s at _ = stays_itself s

pub stays_unregistered : (s : MarksState) (at : ℕ) (answer : Reply) → Stays s (unregistered_after s at answer)
stays_unregistered s at reply.Done = stays_if s _ _ (nat_lt at (length s.heads.frames)) (stays_heads s (freed s.heads at)) (stays_itself s)
stays_unregistered s at _ = stays_itself s

pub stays_purged : (s : MarksState) (n : Name) (answer : Reply) → Stays s (purged_after s n answer)
stays_purged s n reply.Done = stays_names s (without_name s.kept n)
stays_purged s n _ = stays_itself s

-- ---- a lock is taken
stays_entered : (s : MarksState) (slot : ℕ) (n : Name) (m : Mode) (place : ℕ) → Stays s (entered s slot n m place)
stays_entered s slot n m place = stays_if s _ _ (has_spare s) (stays_locks s (given s.locks slot n m)) (stays_offered s (owner.Slot slot) refusal.Memory place)

entered_by : (s : MarksState) (slot : ℕ) (n : Name) (m : Mode) (place : ℕ) (a : Ask) → Stays s (entered_as s slot n m place a)
entered_by s slot n m place ask.Have = stays_entered s slot n m place
entered_by s slot n m place (ask.Conflict by) = stays_offered s (owner.Slot slot) (refusal.Held n (slot_id s by)) place
entered_by s slot n m place (ask.Postponed by) = stays_offered s (owner.Slot slot) (refusal.Retained n by) place
entered_by s slot n m place ask.Local = stays_entered s slot n m place
entered_by s slot n m place (ask.Facility more) = stays_entered s slot n m place

agent_stays : (s : MarksState) (o : Owner) (n : Name) (m : Mode) (place : ℕ) → Stays s (agent_entered s o n m place)
agent_stays s (owner.Slot slot) n m place = stays_if s _ _ (may_claim s slot n) (entered_by s slot n m place (ask_of s.locks slot n m)) (stays_itself s)
agent_stays s (owner.Rollback id) n m place = stays_itself s

page_stays : (s t : MarksState) (p : PageId) (b : Bool) → PageEntered b s p t → Stays s t
page_stays s t p true e = stays_as s t (with_locks s t.locks) e.1 (stays_locks s t.locks)
page_stays s t p false e = stays_as s t s e (stays_itself s)

enters_page : (s t : MarksState) (n : Name) → EntersPage s n t → Stays s t
enters_page s t (name.Space table) e = stays_as s t s e (stays_itself s)
enters_page s t (name.Row table k) e = stays_as s t s e (stays_itself s)
enters_page s t (name.Page p) e = page_stays s t p (may_enter_page s p) e
enters_page s t (name.Set number) e = stays_as s t s e (stays_itself s)

enters : (s t : MarksState) (b : Bool) (o : Owner) (n : Name) (m : Mode) (place : ℕ) → Enters b s o n m place t → Stays s t
enters s t true o n m place e = stays_as s t (agent_entered s o n m place) e (agent_stays s o n m place)
enters s t false o n m place e = enters_page s t n e

refused : (s : MarksState) (o : Owner) (n : Name) (answer : Reply) (place : ℕ) → Stays s (refused_after s o n answer place)
refused s o n (reply.Retained by) place = stays_offered s o (refusal.Retained n by) place
refused s o n (reply.RecordsFull limit) place = stays_offered s o (refusal.RecordsFull limit) place
refused s o n _ place = stays_itself s

pub stays_claimed : (s t : MarksState) (o : Owner) (n : Name) (m : Mode) (answer : Reply) (place : ℕ) → Claims s o n m answer place t → Stays s t
stays_claimed s t o n m (reply.Granted version) place e = enters s t (is_for_agents n) o n m place e
stays_claimed s t o n m answer place e = stays_as s t (refused_after s o n answer place) e (refused s o n answer place)

-- ---- a lock is given up
noted : (s : MarksState) (o : Owner) (b : Book) → Stays s (with_locks (noted_released s o) b)
noted s o b = stays_fewer s (with_locks (noted_released s o) b) refl (owner_like s.trans o (with_released (tran_of s o)) refl (λ e. e) (λ e. e))

release_of : (s : MarksState) (o : Owner) → Stays s (after_release_of s o)
release_of s (owner.Slot slot) = stays_if s _ _ (is_agent s slot) (noted s (owner.Slot slot) (after_release s.locks slot)) (stays_itself s)
release_of s (owner.Rollback id) = stays_if s _ _ (is_some (rollback_releasing s id)) (noted s (owner.Rollback id) (after_postponed_release s.locks (lock_place s id))) (stays_itself s)

pub stays_released : (s : MarksState) (o : Owner) (answer : Reply) → Stays s (released_after s o answer)
stays_released s o reply.Done = release_of s o
stays_released s o _ = stays_itself s

pub stays_page_released : (s : MarksState) (p : PageId) (answer : Reply) → Stays s (page_released_after s p answer)
stays_page_released s p reply.Done = stays_if s _ _ (has_page s p) (stays_locks s (after_page_release s.locks (name.Page p))) (stays_itself s)
stays_page_released s p _ = stays_itself s

-- ---- a transaction ends
rollback_gone : (t : TransState) (k : Option ℕ) → Fewer t (rollback_ended t k)
rollback_gone t None = fewer_itself t
rollback_gone t (Some k) = record { named = λ id some. (let r = removed_named t.rollbacks k id in omega (arith, r)); forward = λ id some. omega arith; free = λ all. all }

pub stays_ended_of : (s : MarksState) (o : Owner) → Stays s (after_end_of s o)
stays_ended_of s (owner.Slot slot) = stays_if s _ _ (is_agent s slot) (stays_fewer s _ refl (record { named = (slot_none s.trans slot free_tran refl).named; forward = (slot_none s.trans slot free_tran refl).forward; free = (slot_none s.trans slot free_tran refl).free })) (stays_itself s)
stays_ended_of s (owner.Rollback id) = stays_fewer s (rollback_over s id) refl (rollback_gone s.trans (place_of s.trans id))

pub stays_ended : (s : MarksState) (o : Owner) (answer : Reply) → Stays s (ended_after s o answer)
stays_ended s o reply.Done = stays_ended_of s o
stays_ended s o _ = stays_itself s

-- ---- changes
patched_at : (k : Kept) (at : ℕ) (o : Option PageId) (ps : List Patch) (n : ℕ) → Stays k.marks (patched_page k at o ps n).marks
patched_at k at None ps n = stays_itself k.marks
patched_at k at (Some id) ps n = cond_both (nat_lt at (length k.pages)) (put_page k at id (written id n ps (bytes_at k.pages at))) k (λ z. Stays k.marks z.marks)
    (λ e. stays_marked k.marks at (rank_of id (bytes_at (slice_set k.pages at (written id n ps (bytes_at k.pages at))) at))) (λ e. stays_itself k.marks)

patched_in : (k : Kept) (o : Option ℕ) (ps : List Patch) (n : ℕ) → Stays k.marks (patched_nth k o ps n).marks
patched_in k None ps n = stays_itself k.marks
patched_in k (Some at) ps n = patched_at k at (frame_in k.marks.heads at).page ps n

patched_all : (k : Kept) (frames : Frames) (ps : List Patch) (n : ℕ) → Stays k.marks (patched_frames k frames ps n).marks
patched_all k frames ps n =
    let one : Kept = patched_nth k (frame_of frames 0) ps n in
    let two : Kept = patched_nth one (frame_of frames 1) ps n in
    let last : Kept = patched_nth two (frame_of frames 2) ps n in
    stays_on k.marks two.marks last.marks (stays_on k.marks one.marks two.marks (patched_in k (frame_of frames 0) ps n) (patched_in one (frame_of frames 1) ps n)) (patched_in two (frame_of frames 2) ps n)

row_at : (k : Kept) (at : ℕ) (o : Option PageId) (c : RowChange) (n : ℕ) → Stays k.marks (row_page k at o c n).marks
row_at k at None c n = stays_itself k.marks
row_at k at (Some id) c n = cond_both (nat_lt at (length k.pages)) (put_page k at id (after_row n c (bytes_at k.pages at))) k (λ z. Stays k.marks z.marks)
    (λ e. stays_marked k.marks at (rank_of id (bytes_at (slice_set k.pages at (after_row n c (bytes_at k.pages at))) at))) (λ e. stays_itself k.marks)

row_in : (k : Kept) (o : Option ℕ) (c : RowChange) (n : ℕ) → Stays k.marks (row_nth k o c n).marks
row_in k None c n = stays_itself k.marks
row_in k (Some at) c n = row_at k at (frame_in k.marks.heads at).page c n

-- and its transactions are what they were
row_page_trans : (k : Kept) (at : ℕ) (o : Option PageId) (c : RowChange) (n : ℕ) → (row_page k at o c n).marks.trans ≡ k.marks.trans
row_page_trans k at None c n = refl
row_page_trans k at (Some id) c n = cond_both (nat_lt at (length k.pages)) (put_page k at id (after_row n c (bytes_at k.pages at))) k (λ z. z.marks.trans ≡ k.marks.trans)
    (λ e. marked_trans k.marks at (rank_of id (bytes_at (slice_set k.pages at (after_row n c (bytes_at k.pages at))) at))) (λ e. refl)
  where
    marked_trans : (s : MarksState) (at : ℕ) (rank : Rank) → (after_marked s at rank).trans ≡ s.trans
    marked_trans s at rank = cond_both (is_placed s.heads at) _ s (λ z. z.trans ≡ s.trans) (λ e. refl) (λ e. refl)

row_trans : (k : Kept) (o : Option ℕ) (c : RowChange) (n : ℕ) → (row_nth k o c n).marks.trans ≡ k.marks.trans
row_trans k None c n = refl
row_trans k (Some at) c n = row_page_trans k at (frame_in k.marks.heads at).page c n

draws_changed : (k : Kept) (slot : ℕ) (frames : Frames) (p : Plan) (n : ℕ) → is_forward (slot_tran k.marks slot).stage ≡ true → Draws n k.marks (changed_by k slot frames p n).marks
draws_changed k slot frames plan.None n goes = draws_stays n k.marks k.marks (stays_itself k.marks)
draws_changed k slot frames (plan.System ps) n goes = draws_after n k.marks (patched_frames k frames ps n).marks _ (patched_all k frames ps n) (draws_system (patched_frames k frames ps n).marks slot n ps)
draws_changed k slot frames (plan.Row c) n goes = draws_after n k.marks (row_nth k (frame_of frames 0) c n).marks _ (row_in k (frame_of frames 0) c n)
    (draws_change (row_nth k (frame_of frames 0) c n).marks slot n c (ap (λ (z : TransState). is_forward (tran_at z slot).stage) (row_trans k (frame_of frames 0) c n) ∙ goes))
draws_changed k slot frames (plan.Back c) n goes = draws_stays n k.marks k.marks (stays_itself k.marks)
draws_changed k slot frames (plan.Fault page at) n goes = draws_stays n k.marks k.marks (stays_itself k.marks)

draws_back : (k : Kept) (o : Owner) (at : ℕ) (p : Plan) (n : ℕ) → Draws n k.marks (back_by k o at p n).marks
draws_back k o at (plan.Back c) n = draws_after n k.marks (row_frame k at c n).marks _ (row_at k at (frame_in k.marks.heads at).page c n) (draws_undo (row_frame k at c n).marks o n)
draws_back k o at plan.None n = draws_stays n k.marks k.marks (stays_itself k.marks)
draws_back k o at (plan.System ps) n = draws_stays n k.marks k.marks (stays_itself k.marks)
draws_back k o at (plan.Row c) n = draws_stays n k.marks k.marks (stays_itself k.marks)
draws_back k o at (plan.Fault page offset) n = draws_stays n k.marks k.marks (stays_itself k.marks)

undrawn : (s : MarksState) (o : Owner) (answer : Reply) (place : ℕ) → Stays s (undrawn_after s o answer place)
undrawn s o (reply.Stale index) place = stays_registered s index false
undrawn s o (reply.LrsnEnd at) place = stays_offered s o (refusal.LrsnEnd at) place
undrawn s o _ place = stays_itself s

-- what is made of the number that was drawn, or of another reply
abbrev pub DrawsBy : Reply → MarksState → MarksState → Type 0
DrawsBy (reply.Drawn n) s t = Draws n s t
DrawsBy _ s t = Stays s t

pub drawn_goes : (k : Kept) (slot : ℕ) (frames : Frames) (p : Plan) (answer : Reply) (place : ℕ) → is_forward (slot_tran k.marks slot).stage ≡ true → DrawsBy answer k.marks (drawn_after k slot frames p answer place).marks
drawn_goes k slot frames p (reply.Drawn n) place goes = draws_changed k slot frames p n goes
drawn_goes k slot frames p answer place goes = undrawn k.marks (owner.Slot slot) answer place

pub undone_goes : (k : Kept) (o : Owner) (at : ℕ) (p : Plan) (answer : Reply) (place : ℕ) → DrawsBy answer k.marks (undone_after k o at p answer place).marks
undone_goes k o at p (reply.Drawn n) place = draws_back k o at p n
undone_goes k o at p answer place = undrawn k.marks o answer place

pub committed_goes : (s : MarksState) (slot : ℕ) (answer : Reply) (place : ℕ) → DrawsBy answer s (committed_after s slot answer place)
committed_goes s slot (reply.Drawn n) place = draws_commit s slot n
committed_goes s slot answer place = undrawn s (owner.Slot slot) answer place

pub goes_as : (answer : Reply) (s t u : MarksState) → t ≡ u → DrawsBy answer s u → DrawsBy answer s t
goes_as answer s t u e k = subst (λ z. DrawsBy answer s z) (sym e) k
