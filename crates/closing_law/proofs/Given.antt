-- What a lock that is taken or given up leaves of the slots.
use Rattle.std.proofs.Common.{◌≡◌, ℕ, refl, ap, Bool, true, false, List, Option, Some, None}
use Rattle.std.specs.Prelude.{◌&&◌, if◌then◌else◌, is_some}
use Rattle.std.proofs.lemmas.Bool.{and_parts}
use Rattle.ds_base.specs.declared.names.PageId.{PageId}
use Rattle.ds_model.specs.declared.fate.Refusal.{Refusal}
use Rattle.ds_model.specs.declared.fate.Refusal.TheVariants as refusal
use Rattle.ds_model.specs.declared.log.LogRecord.{LogRecord}
use Rattle.ds_model.specs.declared.lock.Name.{Name}
use Rattle.ds_model.specs.declared.lock.Name.TheVariants as name
use Rattle.lock_names.specs.declared.mode.Mode.{Mode}
use Rattle.lock_manager.specs.declared.claim.Ask.{Ask}
use Rattle.lock_manager.specs.declared.claim.Ask.TheVariants as ask
use Rattle.lock_manager.specs.Claims.{entered as claims_entered, joined, without}
use Rattle.lock_manager.specs.Managers.{Book, claims_of, held_by, ask_of, given, after_release, after_page_release, after_postponed_release, dropped}
use Rattle.facility.specs.declared.command.Reply.{Reply}
use Rattle.facility.specs.declared.command.Reply.TheVariants as reply
use Rattle.member_trans.specs.declared.fate.Owner.{Owner}
use Rattle.member_trans.specs.declared.fate.Owner.TheVariants as owner
use Rattle.member_trans.specs.Trans.{TransState, TranState, is_drawn, tran_of as tran_in, free_tran, place_of, rollback_ended, slot_ended, with_released}
use Rattle.member_marks.specs.State.{MarksState, slot_id, slot_tran, tran_of, with_locks}
use Rattle.member_marks.specs.Claims.{offered, is_agent, is_for_agents, may_claim, has_page, has_spare, may_enter_page, PageEntered, entered, entered_as, lock_place, noted_released, rollback_releasing, after_release_of, after_release_page, after_end_of, rollback_over}
use Rattle.member_effects.specs.Claims.{Claims, Enters, EntersPage, agent_entered, refused_after}
use Rattle.member_effects.specs.Closing.{released_after, page_released_after, ended_after}
use Rattle.closing_law.specs.Closing.{AllStand, TranStands, Waits}
use Rattle.closing_law.proofs.Effects.{kept_offered}
use Rattle.closing_law.proofs.Kept.{Kept, Leaves, kept_as, kept_if, kept_itself, kept_left, kept_locks}
use Rattle.closing_law.proofs.Lists.{all_removed}
use Rattle.closing_law.proofs.Trans.{free_stands, set_like, set_slot}

-- ---- a lock is taken
kept_given : (s : MarksState) (slot : ℕ) (n : Name) (m : Mode) → Kept s (with_locks s (given s.locks slot n m))
kept_given s slot n m = kept_locks s (given s.locks slot n m)

kept_entered : (s : MarksState) (slot : ℕ) (n : Name) (m : Mode) (place : ℕ) → Kept s (entered s slot n m place)
kept_entered s slot n m place = kept_if s _ _ (has_spare s) (λ e. kept_given s slot n m) (λ e. kept_offered s (owner.Slot slot) refusal.Memory place)

entered_by : (s : MarksState) (slot : ℕ) (n : Name) (m : Mode) (place : ℕ) (a : Ask) → Kept s (entered_as s slot n m place a)
entered_by s slot n m place ask.Have = kept_entered s slot n m place
entered_by s slot n m place (ask.Conflict by) = kept_offered s (owner.Slot slot) (refusal.Held n (slot_id s by)) place
entered_by s slot n m place (ask.Postponed by) = kept_offered s (owner.Slot slot) (refusal.Retained n by) place
entered_by s slot n m place ask.Local = kept_entered s slot n m place
entered_by s slot n m place (ask.Facility more) = kept_entered s slot n m place

agent_stands : (s : MarksState) (o : Owner) (n : Name) (m : Mode) (place : ℕ) → Kept s (agent_entered s o n m place)
agent_stands s (owner.Slot slot) n m place = kept_if s _ _ (may_claim s slot n) (λ e. entered_by s slot n m place (ask_of s.locks slot n m)) (λ e. kept_itself s)
agent_stands s (owner.Rollback id) n m place = kept_itself s

page_stands : (s t : MarksState) (p : PageId) (b : Bool) → PageEntered b s p t → Kept s t
page_stands s t p true e = kept_as s t (with_locks s t.locks) e.1 (kept_locks s t.locks)
page_stands s t p false e = kept_as s t s e (kept_itself s)

enters_page : (s t : MarksState) (n : Name) → EntersPage s n t → Kept s t
enters_page s t (name.Space table) e = kept_as s t s e (kept_itself s)
enters_page s t (name.Row table k) e = kept_as s t s e (kept_itself s)
enters_page s t (name.Page p) e = page_stands s t p (may_enter_page s p) e
enters_page s t (name.Set number) e = kept_as s t s e (kept_itself s)

enters : (s t : MarksState) (b : Bool) (o : Owner) (n : Name) (m : Mode) (place : ℕ) → Enters b s o n m place t → Kept s t
enters s t true o n m place e = kept_as s t (agent_entered s o n m place) e (agent_stands s o n m place)
enters s t false o n m place e = enters_page s t n e

refused : (s : MarksState) (o : Owner) (n : Name) (answer : Reply) (place : ℕ) → Kept s (refused_after s o n answer place)
refused s o n (reply.Granted version) place = kept_itself s
refused s o n (reply.Retained by) place = kept_offered s o (refusal.Retained n by) place
refused s o n (reply.RecordsFull limit) place = kept_offered s o (refusal.RecordsFull limit) place
refused s o n (reply.Contention share exclusive version) place = kept_itself s
refused s o n (reply.Moved version) place = kept_itself s
refused s o n (reply.RetainedLock name mode) place = kept_itself s
refused s o n reply.Done place = kept_itself s
refused s o n reply.Nothing place = kept_itself s
refused s o n reply.Found place = kept_itself s
refused s o n reply.NoData place = kept_itself s
refused s o n reply.CacheFull place = kept_itself s
refused s o n reply.Lost place = kept_itself s
refused s o n reply.Written place = kept_itself s
refused s o n reply.Valid place = kept_itself s
refused s o n reply.Invalid place = kept_itself s
refused s o n reply.Taken place = kept_itself s
refused s o n reply.NotChanged place = kept_itself s
refused s o n (reply.Locked by) place = kept_itself s
refused s o n reply.NotHeld place = kept_itself s
refused s o n (reply.ChangedPage page) place = kept_itself s
refused s o n (reply.Query query) place = kept_itself s
refused s o n reply.Gone place = kept_itself s
refused s o n reply.Cells place = kept_itself s
refused s o n reply.Waits place = kept_itself s
refused s o n reply.Raised place = kept_itself s
refused s o n reply.NotRaised place = kept_itself s
refused s o n (reply.Status status) place = kept_itself s
refused s o n reply.NotLost place = kept_itself s
refused s o n (reply.ClaimTaken by) place = kept_itself s
refused s o n reply.Claimed place = kept_itself s
refused s o n (reply.Drawn lrsn) place = kept_itself s
refused s o n (reply.Stale index) place = kept_itself s
refused s o n (reply.LrsnEnd at) place = kept_itself s

pub kept_claimed : (s t : MarksState) (o : Owner) (n : Name) (m : Mode) (answer : Reply) (place : ℕ) → Claims s o n m answer place t → Kept s t
kept_claimed s t o n m (reply.Granted version) place e = enters s t (is_for_agents n) o n m place e
kept_claimed s t o n m (reply.Retained by) place e = kept_as s t (refused_after s o n (reply.Retained by) place) e (refused s o n (reply.Retained by) place)
kept_claimed s t o n m (reply.RecordsFull limit) place e = kept_as s t (refused_after s o n (reply.RecordsFull limit) place) e (refused s o n (reply.RecordsFull limit) place)
kept_claimed s t o n m (reply.Contention share exclusive version) place e = kept_as s t (refused_after s o n (reply.Contention share exclusive version) place) e (refused s o n (reply.Contention share exclusive version) place)
kept_claimed s t o n m (reply.Moved version) place e = kept_as s t (refused_after s o n (reply.Moved version) place) e (refused s o n (reply.Moved version) place)
kept_claimed s t o n m (reply.RetainedLock other mode) place e = kept_as s t (refused_after s o n (reply.RetainedLock other mode) place) e (refused s o n (reply.RetainedLock other mode) place)
kept_claimed s t o n m reply.Done place e = kept_as s t (refused_after s o n reply.Done place) e (refused s o n reply.Done place)
kept_claimed s t o n m reply.Nothing place e = kept_as s t (refused_after s o n reply.Nothing place) e (refused s o n reply.Nothing place)
kept_claimed s t o n m reply.Found place e = kept_as s t (refused_after s o n reply.Found place) e (refused s o n reply.Found place)
kept_claimed s t o n m reply.NoData place e = kept_as s t (refused_after s o n reply.NoData place) e (refused s o n reply.NoData place)
kept_claimed s t o n m reply.CacheFull place e = kept_as s t (refused_after s o n reply.CacheFull place) e (refused s o n reply.CacheFull place)
kept_claimed s t o n m reply.Lost place e = kept_as s t (refused_after s o n reply.Lost place) e (refused s o n reply.Lost place)
kept_claimed s t o n m reply.Written place e = kept_as s t (refused_after s o n reply.Written place) e (refused s o n reply.Written place)
kept_claimed s t o n m reply.Valid place e = kept_as s t (refused_after s o n reply.Valid place) e (refused s o n reply.Valid place)
kept_claimed s t o n m reply.Invalid place e = kept_as s t (refused_after s o n reply.Invalid place) e (refused s o n reply.Invalid place)
kept_claimed s t o n m reply.Taken place e = kept_as s t (refused_after s o n reply.Taken place) e (refused s o n reply.Taken place)
kept_claimed s t o n m reply.NotChanged place e = kept_as s t (refused_after s o n reply.NotChanged place) e (refused s o n reply.NotChanged place)
kept_claimed s t o n m (reply.Locked by) place e = kept_as s t (refused_after s o n (reply.Locked by) place) e (refused s o n (reply.Locked by) place)
kept_claimed s t o n m reply.NotHeld place e = kept_as s t (refused_after s o n reply.NotHeld place) e (refused s o n reply.NotHeld place)
kept_claimed s t o n m (reply.ChangedPage page) place e = kept_as s t (refused_after s o n (reply.ChangedPage page) place) e (refused s o n (reply.ChangedPage page) place)
kept_claimed s t o n m (reply.Query query) place e = kept_as s t (refused_after s o n (reply.Query query) place) e (refused s o n (reply.Query query) place)
kept_claimed s t o n m reply.Gone place e = kept_as s t (refused_after s o n reply.Gone place) e (refused s o n reply.Gone place)
kept_claimed s t o n m reply.Cells place e = kept_as s t (refused_after s o n reply.Cells place) e (refused s o n reply.Cells place)
kept_claimed s t o n m reply.Waits place e = kept_as s t (refused_after s o n reply.Waits place) e (refused s o n reply.Waits place)
kept_claimed s t o n m reply.Raised place e = kept_as s t (refused_after s o n reply.Raised place) e (refused s o n reply.Raised place)
kept_claimed s t o n m reply.NotRaised place e = kept_as s t (refused_after s o n reply.NotRaised place) e (refused s o n reply.NotRaised place)
kept_claimed s t o n m (reply.Status status) place e = kept_as s t (refused_after s o n (reply.Status status) place) e (refused s o n (reply.Status status) place)
kept_claimed s t o n m reply.NotLost place e = kept_as s t (refused_after s o n reply.NotLost place) e (refused s o n reply.NotLost place)
kept_claimed s t o n m (reply.ClaimTaken by) place e = kept_as s t (refused_after s o n (reply.ClaimTaken by) place) e (refused s o n (reply.ClaimTaken by) place)
kept_claimed s t o n m reply.Claimed place e = kept_as s t (refused_after s o n reply.Claimed place) e (refused s o n reply.Claimed place)
kept_claimed s t o n m (reply.Drawn lrsn) place e = kept_as s t (refused_after s o n (reply.Drawn lrsn) place) e (refused s o n (reply.Drawn lrsn) place)
kept_claimed s t o n m (reply.Stale index) place e = kept_as s t (refused_after s o n (reply.Stale index) place) e (refused s o n (reply.Stale index) place)
kept_claimed s t o n m (reply.LrsnEnd at) place e = kept_as s t (refused_after s o n (reply.LrsnEnd at) place) e (refused s o n (reply.LrsnEnd at) place)

-- ---- a lock is given up
kept_noted : (s : MarksState) (o : Owner) (b : Book) → Kept s (with_locks (noted_released s o) b)
kept_noted s o b = kept_left s (with_locks (noted_released s o) b) refl refl (λ disk pend h. set_like disk pend s.log.stable s.trans o (with_released (tran_of s o)) refl refl refl refl h)

release_of : (s : MarksState) (o : Owner) → Kept s (after_release_of s o)
release_of s (owner.Slot slot) = kept_if s _ _ (is_agent s slot) (λ e. kept_noted s (owner.Slot slot) (after_release s.locks slot)) (λ e. kept_itself s)
release_of s (owner.Rollback id) = kept_if s _ _ (is_some (rollback_releasing s id))
    (λ e. kept_noted s (owner.Rollback id) (after_postponed_release s.locks (lock_place s id))) (λ e. kept_itself s)

pub kept_released : (s : MarksState) (o : Owner) (answer : Reply) → Kept s (released_after s o answer)
kept_released s o (reply.Granted version) = kept_itself s
kept_released s o (reply.Retained by) = kept_itself s
kept_released s o (reply.RecordsFull limit) = kept_itself s
kept_released s o (reply.Contention share exclusive version) = kept_itself s
kept_released s o (reply.Moved version) = kept_itself s
kept_released s o (reply.RetainedLock name mode) = kept_itself s
kept_released s o reply.Done = release_of s o
kept_released s o reply.Nothing = kept_itself s
kept_released s o reply.Found = kept_itself s
kept_released s o reply.NoData = kept_itself s
kept_released s o reply.CacheFull = kept_itself s
kept_released s o reply.Lost = kept_itself s
kept_released s o reply.Written = kept_itself s
kept_released s o reply.Valid = kept_itself s
kept_released s o reply.Invalid = kept_itself s
kept_released s o reply.Taken = kept_itself s
kept_released s o reply.NotChanged = kept_itself s
kept_released s o (reply.Locked by) = kept_itself s
kept_released s o reply.NotHeld = kept_itself s
kept_released s o (reply.ChangedPage page) = kept_itself s
kept_released s o (reply.Query query) = kept_itself s
kept_released s o reply.Gone = kept_itself s
kept_released s o reply.Cells = kept_itself s
kept_released s o reply.Waits = kept_itself s
kept_released s o reply.Raised = kept_itself s
kept_released s o reply.NotRaised = kept_itself s
kept_released s o (reply.Status status) = kept_itself s
kept_released s o reply.NotLost = kept_itself s
kept_released s o (reply.ClaimTaken by) = kept_itself s
kept_released s o reply.Claimed = kept_itself s
kept_released s o (reply.Drawn lrsn) = kept_itself s
kept_released s o (reply.Stale index) = kept_itself s
kept_released s o (reply.LrsnEnd at) = kept_itself s

release_page : (s : MarksState) (p : PageId) → Kept s (after_release_page s p)
release_page s p = kept_if s _ _ (has_page s p) (λ e. kept_locks s (after_page_release s.locks (name.Page p))) (λ e. kept_itself s)

pub kept_page_released : (s : MarksState) (p : PageId) (answer : Reply) → Kept s (page_released_after s p answer)
kept_page_released s p (reply.Granted version) = kept_itself s
kept_page_released s p (reply.Retained by) = kept_itself s
kept_page_released s p (reply.RecordsFull limit) = kept_itself s
kept_page_released s p (reply.Contention share exclusive version) = kept_itself s
kept_page_released s p (reply.Moved version) = kept_itself s
kept_page_released s p (reply.RetainedLock name mode) = kept_itself s
kept_page_released s p reply.Done = release_page s p
kept_page_released s p reply.Nothing = kept_itself s
kept_page_released s p reply.Found = kept_itself s
kept_page_released s p reply.NoData = kept_itself s
kept_page_released s p reply.CacheFull = kept_itself s
kept_page_released s p reply.Lost = kept_itself s
kept_page_released s p reply.Written = kept_itself s
kept_page_released s p reply.Valid = kept_itself s
kept_page_released s p reply.Invalid = kept_itself s
kept_page_released s p reply.Taken = kept_itself s
kept_page_released s p reply.NotChanged = kept_itself s
kept_page_released s p (reply.Locked by) = kept_itself s
kept_page_released s p reply.NotHeld = kept_itself s
kept_page_released s p (reply.ChangedPage page) = kept_itself s
kept_page_released s p (reply.Query query) = kept_itself s
kept_page_released s p reply.Gone = kept_itself s
kept_page_released s p reply.Cells = kept_itself s
kept_page_released s p reply.Waits = kept_itself s
kept_page_released s p reply.Raised = kept_itself s
kept_page_released s p reply.NotRaised = kept_itself s
kept_page_released s p (reply.Status status) = kept_itself s
kept_page_released s p reply.NotLost = kept_itself s
kept_page_released s p (reply.ClaimTaken by) = kept_itself s
kept_page_released s p reply.Claimed = kept_itself s
kept_page_released s p (reply.Drawn lrsn) = kept_itself s
kept_page_released s p (reply.Stale index) = kept_itself s
kept_page_released s p (reply.LrsnEnd at) = kept_itself s

-- ---- a transaction ends
not_drawn : (pend : List LogRecord) (t x : TranState) → is_drawn t.stage ≡ false → Waits pend t → Waits pend x
not_drawn pend t x other w = absurd (never (is_drawn t.stage) other w.drawn)
  where
    never : (b : Bool) → b ≡ false → b ≡ true → ⊥
    never b p q = cc

slot_free : (s : MarksState) (slot : ℕ) → is_drawn (slot_tran s slot).stage ≡ false → Leaves s (slot_ended s.trans slot)
slot_free s slot other disk pend h =
    let set = set_slot disk pend s.log.stable s.trans slot free_tran h (free_stands disk pend s.log.stable) (not_drawn pend (slot_tran s slot) free_tran other) in
    record { slots = set.slots; rollbacks = set.rollbacks; commits = set.commits }

rollback_gone : (s : MarksState) (k : Option ℕ) → Leaves s (rollback_ended s.trans k)
rollback_gone s None disk pend h = h
rollback_gone s (Some k) disk pend h = record { slots = h.slots; rollbacks = all_removed (TranStands disk pend s.log.stable) s.trans.rollbacks k h.rollbacks; commits = h.commits }

pub kept_ended_of : (s : MarksState) (o : Owner) → is_drawn (tran_of s o).stage ≡ false → Kept s (after_end_of s o)
kept_ended_of s (owner.Slot slot) other = kept_if s _ _ (is_agent s slot) (λ e. kept_left s _ refl refl (slot_free s slot other)) (λ e. kept_itself s)
kept_ended_of s (owner.Rollback id) other = kept_left s (rollback_over s id) refl refl (rollback_gone s (place_of s.trans id))

pub kept_ended : (s : MarksState) (o : Owner) (answer : Reply) → is_drawn (tran_of s o).stage ≡ false → Kept s (ended_after s o answer)
kept_ended s o (reply.Granted version) other = kept_itself s
kept_ended s o (reply.Retained by) other = kept_itself s
kept_ended s o (reply.RecordsFull limit) other = kept_itself s
kept_ended s o (reply.Contention share exclusive version) other = kept_itself s
kept_ended s o (reply.Moved version) other = kept_itself s
kept_ended s o (reply.RetainedLock name mode) other = kept_itself s
kept_ended s o reply.Done other = kept_ended_of s o other
kept_ended s o reply.Nothing other = kept_itself s
kept_ended s o reply.Found other = kept_itself s
kept_ended s o reply.NoData other = kept_itself s
kept_ended s o reply.CacheFull other = kept_itself s
kept_ended s o reply.Lost other = kept_itself s
kept_ended s o reply.Written other = kept_itself s
kept_ended s o reply.Valid other = kept_itself s
kept_ended s o reply.Invalid other = kept_itself s
kept_ended s o reply.Taken other = kept_itself s
kept_ended s o reply.NotChanged other = kept_itself s
kept_ended s o (reply.Locked by) other = kept_itself s
kept_ended s o reply.NotHeld other = kept_itself s
kept_ended s o (reply.ChangedPage page) other = kept_itself s
kept_ended s o (reply.Query query) other = kept_itself s
kept_ended s o reply.Gone other = kept_itself s
kept_ended s o reply.Cells other = kept_itself s
kept_ended s o reply.Waits other = kept_itself s
kept_ended s o reply.Raised other = kept_itself s
kept_ended s o reply.NotRaised other = kept_itself s
kept_ended s o (reply.Status status) other = kept_itself s
kept_ended s o reply.NotLost other = kept_itself s
kept_ended s o (reply.ClaimTaken by) other = kept_itself s
kept_ended s o reply.Claimed other = kept_itself s
kept_ended s o (reply.Drawn lrsn) other = kept_itself s
kept_ended s o (reply.Stale index) other = kept_itself s
kept_ended s o (reply.LrsnEnd at) other = kept_itself s
