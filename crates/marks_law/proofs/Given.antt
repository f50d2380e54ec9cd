-- What a lock that is taken or given up leaves of the slots.
use Rattle.std.proofs.Common.{◌≡◌, ℕ, refl, ap, Bool, true, false, Option, Some, None}
use Rattle.std.specs.Prelude.{◌&&◌, is_some}
use Rattle.std.proofs.lemmas.Bool.{and_parts}
use Rattle.ds_base.specs.declared.names.PageId.{PageId}
use Rattle.ds_model.specs.declared.fate.Refusal.{Refusal}
use Rattle.ds_model.specs.declared.fate.Refusal.TheVariants as refusal
use Rattle.ds_model.specs.declared.lock.Name.{Name}
use Rattle.ds_model.specs.declared.lock.Name.TheVariants as name
use Rattle.lock_names.specs.declared.mode.Mode.{Mode}
use Rattle.lock_manager.specs.declared.claim.Ask.{Ask}
use Rattle.lock_manager.specs.declared.claim.Ask.TheVariants as ask
use Rattle.lock_manager.specs.Claims.{entered as claims_entered, joined, without}
use Rattle.lock_manager.specs.Managers.{Book, claims_of, held_by, ask_of, given, after_release, after_page_release, after_postponed_release, dropped}
use Rattle.facility.specs.declared.command.Reply.{Reply}
use Rattle.facility.specs.declared.command.Reply.TheVariants as reply
use Rattle.member_trans.specs.declared.fate.Owner.{Owner}
use Rattle.member_trans.specs.declared.fate.Owner.TheVariants as owner
use Rattle.member_trans.specs.Trans.{TransState, is_forward, tran_of as tran_in, free_tran, place_of, rollback_ended, slot_ended, with_released}
use Rattle.member_marks.specs.State.{MarksState, slot_id, slot_tran, tran_of, with_locks}
use Rattle.member_marks.specs.Claims.{offered, is_agent, is_for_agents, may_claim, has_page, has_spare, may_enter_page, PageEntered, entered, entered_as, lock_place, noted_released, rollback_releasing, after_release_of, after_release_page, after_end_of, rollback_over}
use Rattle.member_effects.specs.Claims.{Claims, Enters, EntersPage, agent_entered, refused_after}
use Rattle.member_effects.specs.Closing.{released_after, page_released_after, ended_after}
use Rattle.marks_law.specs.Slots.{AreSlots}
use Rattle.marks_law.proofs.Free.{FreesNone, LeavesNone, free_left, free_over, frees_of, left_dropped, left_forward, left_own, left_postponed_release, left_released}
use Rattle.marks_law.proofs.Kept.{Stands, stands_kept, stands_as, stands_if, stands_itself, stands_locks}
use Rattle.marks_law.proofs.Slots.{SameStage, set_of, set_slots}
use Rattle.marks_law.proofs.Effects.{kept_offered}

-- ---- a lock is taken
stands_offered : (s : MarksState) (o : Owner) (r : Refusal) (place : ℕ) → Stands s (offered s o r place)
stands_offered s o r place = stands_kept s (offered s o r place) (kept_offered s o r place)

stands_given : (s : MarksState) (slot : ℕ) (n : Name) (m : Mode) → is_forward (slot_tran s slot).stage ≡ true → Stands s (with_locks s (given s.locks slot n m))
stands_given s slot n m forward = stands_locks s (given s.locks slot n m) (left_forward s (given s.locks slot n m) slot (claims_entered (claims_of s.locks slot) n (joined (held_by s.locks slot n) m)) refl refl forward)

stands_entered : (s : MarksState) (slot : ℕ) (n : Name) (m : Mode) (place : ℕ) → is_forward (slot_tran s slot).stage ≡ true → Stands s (entered s slot n m place)
stands_entered s slot n m place forward = stands_if s _ _ (has_spare s) (λ e. stands_given s slot n m forward) (λ e. stands_offered s (owner.Slot slot) refusal.Memory place)

entered_by : (s : MarksState) (slot : ℕ) (n : Name) (m : Mode) (place : ℕ) (a : Ask) → is_forward (slot_tran s slot).stage ≡ true → Stands s (entered_as s slot n m place a)
entered_by s slot n m place ask.Have forward = stands_entered s slot n m place forward
entered_by s slot n m place (ask.Conflict by) forward = stands_offered s (owner.Slot slot) (refusal.Held n (slot_id s by)) place
entered_by s slot n m place (ask.Postponed by) forward = stands_offered s (owner.Slot slot) (refusal.Retained n by) place
entered_by s slot n m place ask.Local forward = stands_entered s slot n m place forward
entered_by s slot n m place (ask.Facility more) forward = stands_entered s slot n m place forward

pub claims_forward : (s : MarksState) (slot : ℕ) (n : Name) → may_claim s slot n ≡ true → is_forward (slot_tran s slot).stage ≡ true
claims_forward s slot n may =
    (and_parts (is_forward (slot_tran s slot).stage) (is_for_agents n) (and_parts (is_agent s slot) (is_forward (slot_tran s slot).stage && is_for_agents n) may).1).0

agent_stands : (s : MarksState) (o : Owner) (n : Name) (m : Mode) (place : ℕ) → Stands s (agent_entered s o n m place)
agent_stands s (owner.Slot slot) n m place = stands_if s _ _ (may_claim s slot n) (λ e. entered_by s slot n m place (ask_of s.locks slot n m) (claims_forward s slot n e)) (λ e. stands_itself s)
agent_stands s (owner.Rollback id) n m place = stands_itself s

page_stands : (s t : MarksState) (p : PageId) (b : Bool) → PageEntered b s p t → Stands s t
page_stands s t p true e = stands_as s t (with_locks s t.locks) e.1 (stands_locks s t.locks (left_own s t.locks (claims_of t.locks 0) (ap (λ (b : Book). b.agents) e.0.rest) (ap (λ (b : Book). b.holders) e.0.rest)))
page_stands s t p false e = stands_as s t s e (stands_itself s)

enters_page : (s t : MarksState) (n : Name) → EntersPage s n t → Stands s t
enters_page s t (name.Space table) e = stands_as s t s e (stands_itself s)
enters_page s t (name.Row table k) e = stands_as s t s e (stands_itself s)
enters_page s t (name.Page p) e = page_stands s t p (may_enter_page s p) e
enters_page s t (name.Set number) e = stands_as s t s e (stands_itself s)

enters : (s t : MarksState) (b : Bool) (o : Owner) (n : Name) (m : Mode) (place : ℕ) → Enters b s o n m place t → Stands s t
enters s t true o n m place e = stands_as s t (agent_entered s o n m place) e (agent_stands s o n m place)
enters s t false o n m place e = enters_page s t n e

refused : (s : MarksState) (o : Owner) (n : Name) (answer : Reply) (place : ℕ) → Stands s (refused_after s o n answer place)
refused s o n (reply.Granted version) place = stands_itself s
refused s o n (reply.Retained by) place = stands_offered s o (refusal.Retained n by) place
refused s o n (reply.RecordsFull limit) place = stands_offered s o (refusal.RecordsFull limit) place
refused s o n (reply.Contention share exclusive version) place = stands_itself s
refused s o n (reply.Moved version) place = stands_itself s
refused s o n (reply.RetainedLock name mode) place = stands_itself s
refused s o n reply.Done place = stands_itself s
refused s o n reply.Nothing place = stands_itself s
refused s o n reply.Found place = stands_itself s
refused s o n reply.NoData place = stands_itself s
refused s o n reply.CacheFull place = stands_itself s
refused s o n reply.Lost place = stands_itself s
refused s o n reply.Written place = stands_itself s
refused s o n reply.Valid place = stands_itself s
refused s o n reply.Invalid place = stands_itself s
refused s o n reply.Taken place = stands_itself s
refused s o n reply.NotChanged place = stands_itself s
refused s o n (reply.Locked by) place = stands_itself s
refused s o n reply.NotHeld place = stands_itself s
refused s o n (reply.ChangedPage page) place = stands_itself s
refused s o n (reply.Query query) place = stands_itself s
refused s o n reply.Gone place = stands_itself s
refused s o n reply.Cells place = stands_itself s
refused s o n reply.Waits place = stands_itself s
refused s o n reply.Raised place = stands_itself s
refused s o n reply.NotRaised place = stands_itself s
refused s o n (reply.Status status) place = stands_itself s
refused s o n reply.NotLost place = stands_itself s
refused s o n (reply.ClaimTaken by) place = stands_itself s
refused s o n reply.Claimed place = stands_itself s
refused s o n (reply.Drawn lrsn) place = stands_itself s
refused s o n (reply.Stale index) place = stands_itself s
refused s o n (reply.LrsnEnd at) place = stands_itself s

pub stands_claimed : (s t : MarksState) (o : Owner) (n : Name) (m : Mode) (answer : Reply) (place : ℕ) → Claims s o n m answer place t → Stands s t
stands_claimed s t o n m (reply.Granted version) place e = enters s t (is_for_agents n) o n m place e
stands_claimed s t o n m (reply.Retained by) place e = stands_as s t (refused_after s o n (reply.Retained by) place) e (refused s o n (reply.Retained by) place)
stands_claimed s t o n m (reply.RecordsFull limit) place e = stands_as s t (refused_after s o n (reply.RecordsFull limit) place) e (refused s o n (reply.RecordsFull limit) place)
stands_claimed s t o n m (reply.Contention share exclusive version) place e = stands_as s t (refused_after s o n (reply.Contention share exclusive version) place) e (refused s o n (reply.Contention share exclusive version) place)
stands_claimed s t o n m (reply.Moved version) place e = stands_as s t (refused_after s o n (reply.Moved version) place) e (refused s o n (reply.Moved version) place)
stands_claimed s t o n m (reply.RetainedLock other mode) place e = stands_as s t (refused_after s o n (reply.RetainedLock other mode) place) e (refused s o n (reply.RetainedLock other mode) place)
stands_claimed s t o n m reply.Done place e = stands_as s t (refused_after s o n reply.Done place) e (refused s o n reply.Done place)
stands_claimed s t o n m reply.Nothing place e = stands_as s t (refused_after s o n reply.Nothing place) e (refused s o n reply.Nothing place)
stands_claimed s t o n m reply.Found place e = stands_as s t (refused_after s o n reply.Found place) e (refused s o n reply.Found place)
stands_claimed s t o n m reply.NoData place e = stands_as s t (refused_after s o n reply.NoData place) e (refused s o n reply.NoData place)
stands_claimed s t o n m reply.CacheFull place e = stands_as s t (refused_after s o n reply.CacheFull place) e (refused s o n reply.CacheFull place)
stands_claimed s t o n m reply.Lost place e = stands_as s t (refused_after s o n reply.Lost place) e (refused s o n reply.Lost place)
stands_claimed s t o n m reply.Written place e = stands_as s t (refused_after s o n reply.Written place) e (refused s o n reply.Written place)
stands_claimed s t o n m reply.Valid place e = stands_as s t (refused_after s o n reply.Valid place) e (refused s o n reply.Valid place)
stands_claimed s t o n m reply.Invalid place e = stands_as s t (refused_after s o n reply.Invalid place) e (refused s o n reply.Invalid place)
stands_claimed s t o n m reply.Taken place e = stands_as s t (refused_after s o n reply.Taken place) e (refused s o n reply.Taken place)
stands_claimed s t o n m reply.NotChanged place e = stands_as s t (refused_after s o n reply.NotChanged place) e (refused s o n reply.NotChanged place)
stands_claimed s t o n m (reply.Locked by) place e = stands_as s t (refused_after s o n (reply.Locked by) place) e (refused s o n (reply.Locked by) place)
stands_claimed s t o n m reply.NotHeld place e = stands_as s t (refused_after s o n reply.NotHeld place) e (refused s o n reply.NotHeld place)
stands_claimed s t o n m (reply.ChangedPage page) place e = stands_as s t (refused_after s o n (reply.ChangedPage page) place) e (refused s o n (reply.ChangedPage page) place)
stands_claimed s t o n m (reply.Query query) place e = stands_as s t (refused_after s o n (reply.Query query) place) e (refused s o n (reply.Query query) place)
stands_claimed s t o n m reply.Gone place e = stands_as s t (refused_after s o n reply.Gone place) e (refused s o n reply.Gone place)
stands_claimed s t o n m reply.Cells place e = stands_as s t (refused_after s o n reply.Cells place) e (refused s o n reply.Cells place)
stands_claimed s t o n m reply.Waits place e = stands_as s t (refused_after s o n reply.Waits place) e (refused s o n reply.Waits place)
stands_claimed s t o n m reply.Raised place e = stands_as s t (refused_after s o n reply.Raised place) e (refused s o n reply.Raised place)
stands_claimed s t o n m reply.NotRaised place e = stands_as s t (refused_after s o n reply.NotRaised place) e (refused s o n reply.NotRaised place)
stands_claimed s t o n m (reply.Status status) place e = stands_as s t (refused_after s o n (reply.Status status) place) e (refused s o n (reply.Status status) place)
stands_claimed s t o n m reply.NotLost place e = stands_as s t (refused_after s o n reply.NotLost place) e (refused s o n reply.NotLost place)
stands_claimed s t o n m (reply.ClaimTaken by) place e = stands_as s t (refused_after s o n (reply.ClaimTaken by) place) e (refused s o n (reply.ClaimTaken by) place)
stands_claimed s t o n m reply.Claimed place e = stands_as s t (refused_after s o n reply.Claimed place) e (refused s o n reply.Claimed place)
stands_claimed s t o n m (reply.Drawn lrsn) place e = stands_as s t (refused_after s o n (reply.Drawn lrsn) place) e (refused s o n (reply.Drawn lrsn) place)
stands_claimed s t o n m (reply.Stale index) place e = stands_as s t (refused_after s o n (reply.Stale index) place) e (refused s o n (reply.Stale index) place)
stands_claimed s t o n m (reply.LrsnEnd at) place e = stands_as s t (refused_after s o n (reply.LrsnEnd at) place) e (refused s o n (reply.LrsnEnd at) place)

-- ---- a lock is given up
same_released : (t : TransState) (o : Owner) → SameStage t o (with_released (tran_in t o))
same_released t (owner.Slot slot) = refl
same_released t (owner.Rollback id) = tt

stands_noted : (s : MarksState) (o : Owner) (b : Book) → LeavesNone s b → Stands s (with_locks (noted_released s o) b)
stands_noted s o b left = record {
  agents = left.agents;
  slots = λ h. set_of s.trans s.locks.agents o (with_released (tran_of s o)) h (same_released s.trans o);
  free = free_left s (with_locks (noted_released s o) b) left (frees_of s.trans o (with_released (tran_of s o)) (same_released s.trans o));
}

release_of : (s : MarksState) (o : Owner) → Stands s (after_release_of s o)
release_of s (owner.Slot slot) = stands_if s _ _ (is_agent s slot) (λ e. stands_noted s (owner.Slot slot) (after_release s.locks slot) (left_released s slot)) (λ e. stands_itself s)
release_of s (owner.Rollback id) = stands_if s _ _ (is_some (rollback_releasing s id))
    (λ e. stands_noted s (owner.Rollback id) (after_postponed_release s.locks (lock_place s id)) (left_postponed_release s (lock_place s id))) (λ e. stands_itself s)

pub stands_released : (s : MarksState) (o : Owner) (answer : Reply) → Stands s (released_after s o answer)
stands_released s o (reply.Granted version) = stands_itself s
stands_released s o (reply.Retained by) = stands_itself s
stands_released s o (reply.RecordsFull limit) = stands_itself s
stands_released s o (reply.Contention share exclusive version) = stands_itself s
stands_released s o (reply.Moved version) = stands_itself s
stands_released s o (reply.RetainedLock name mode) = stands_itself s
stands_released s o reply.Done = release_of s o
stands_released s o reply.Nothing = stands_itself s
stands_released s o reply.Found = stands_itself s
stands_released s o reply.NoData = stands_itself s
stands_released s o reply.CacheFull = stands_itself s
stands_released s o reply.Lost = stands_itself s
stands_released s o reply.Written = stands_itself s
stands_released s o reply.Valid = stands_itself s
stands_released s o reply.Invalid = stands_itself s
stands_released s o reply.Taken = stands_itself s
stands_released s o reply.NotChanged = stands_itself s
stands_released s o (reply.Locked by) = stands_itself s
stands_released s o reply.NotHeld = stands_itself s
stands_released s o (reply.ChangedPage page) = stands_itself s
stands_released s o (reply.Query query) = stands_itself s
stands_released s o reply.Gone = stands_itself s
stands_released s o reply.Cells = stands_itself s
stands_released s o reply.Waits = stands_itself s
stands_released s o reply.Raised = stands_itself s
stands_released s o reply.NotRaised = stands_itself s
stands_released s o (reply.Status status) = stands_itself s
stands_released s o reply.NotLost = stands_itself s
stands_released s o (reply.ClaimTaken by) = stands_itself s
stands_released s o reply.Claimed = stands_itself s
stands_released s o (reply.Drawn lrsn) = stands_itself s
stands_released s o (reply.Stale index) = stands_itself s
stands_released s o (reply.LrsnEnd at) = stands_itself s

release_page : (s : MarksState) (p : PageId) → Stands s (after_release_page s p)
release_page s p = stands_if s _ _ (has_page s p) (λ e. stands_locks s (after_page_release s.locks (name.Page p)) (left_own s (after_page_release s.locks (name.Page p)) (without (claims_of s.locks 0) (name.Page p)) refl refl)) (λ e. stands_itself s)

pub stands_page_released : (s : MarksState) (p : PageId) (answer : Reply) → Stands s (page_released_after s p answer)
stands_page_released s p (reply.Granted version) = stands_itself s
stands_page_released s p (reply.Retained by) = stands_itself s
stands_page_released s p (reply.RecordsFull limit) = stands_itself s
stands_page_released s p (reply.Contention share exclusive version) = stands_itself s
stands_page_released s p (reply.Moved version) = stands_itself s
stands_page_released s p (reply.RetainedLock name mode) = stands_itself s
stands_page_released s p reply.Done = release_page s p
stands_page_released s p reply.Nothing = stands_itself s
stands_page_released s p reply.Found = stands_itself s
stands_page_released s p reply.NoData = stands_itself s
stands_page_released s p reply.CacheFull = stands_itself s
stands_page_released s p reply.Lost = stands_itself s
stands_page_released s p reply.Written = stands_itself s
stands_page_released s p reply.Valid = stands_itself s
stands_page_released s p reply.Invalid = stands_itself s
stands_page_released s p reply.Taken = stands_itself s
stands_page_released s p reply.NotChanged = stands_itself s
stands_page_released s p (reply.Locked by) = stands_itself s
stands_page_released s p reply.NotHeld = stands_itself s
stands_page_released s p (reply.ChangedPage page) = stands_itself s
stands_page_released s p (reply.Query query) = stands_itself s
stands_page_released s p reply.Gone = stands_itself s
stands_page_released s p reply.Cells = stands_itself s
stands_page_released s p reply.Waits = stands_itself s
stands_page_released s p reply.Raised = stands_itself s
stands_page_released s p reply.NotRaised = stands_itself s
stands_page_released s p (reply.Status status) = stands_itself s
stands_page_released s p reply.NotLost = stands_itself s
stands_page_released s p (reply.ClaimTaken by) = stands_itself s
stands_page_released s p reply.Claimed = stands_itself s
stands_page_released s p (reply.Drawn lrsn) = stands_itself s
stands_page_released s p (reply.Stale index) = stands_itself s
stands_page_released s p (reply.LrsnEnd at) = stands_itself s

-- ---- a transaction ends
slot_free : (t : TransState) (agents slot : ℕ) → AreSlots t agents → AreSlots (slot_ended t slot) agents
slot_free t agents slot h =
    let set = set_slots t agents slot free_tran h (λ e. refl) in
    record { count = set.count; own = set.own; commits = set.commits }

rollback_gone : (t : TransState) (agents : ℕ) (k : Option ℕ) → AreSlots t agents → AreSlots (rollback_ended t k) agents
rollback_gone t agents None h = h
rollback_gone t agents (Some k) h = record { count = h.count; own = h.own; commits = h.commits }

gone_frees : (t : TransState) (k : Option ℕ) → FreesNone t (rollback_ended t k)
gone_frees t None = λ slot f. f
gone_frees t (Some k) = λ slot f. f

rollback_stands : (s : MarksState) (id : ℕ) → Stands s (rollback_over s id)
rollback_stands s id =
    let left : LeavesNone s (dropped s.locks (lock_place s id)) = left_dropped s (lock_place s id) in
    record { agents = left.agents; slots = rollback_gone s.trans s.locks.agents (place_of s.trans id); free = free_left s (rollback_over s id) left (gone_frees s.trans (place_of s.trans id)) }

pub stands_ended_of : (s : MarksState) (o : Owner) → Stands s (after_end_of s o)
stands_ended_of s (owner.Slot slot) = stands_if s _ _ (is_agent s slot) (λ e. record { agents = refl; slots = slot_free s.trans s.locks.agents slot; free = free_over s slot }) (λ e. stands_itself s)
stands_ended_of s (owner.Rollback id) = rollback_stands s id

pub stands_ended : (s : MarksState) (o : Owner) (answer : Reply) → Stands s (ended_after s o answer)
stands_ended s o (reply.Granted version) = stands_itself s
stands_ended s o (reply.Retained by) = stands_itself s
stands_ended s o (reply.RecordsFull limit) = stands_itself s
stands_ended s o (reply.Contention share exclusive version) = stands_itself s
stands_ended s o (reply.Moved version) = stands_itself s
stands_ended s o (reply.RetainedLock name mode) = stands_itself s
stands_ended s o reply.Done = stands_ended_of s o
stands_ended s o reply.Nothing = stands_itself s
stands_ended s o reply.Found = stands_itself s
stands_ended s o reply.NoData = stands_itself s
stands_ended s o reply.CacheFull = stands_itself s
stands_ended s o reply.Lost = stands_itself s
stands_ended s o reply.Written = stands_itself s
stands_ended s o reply.Valid = stands_itself s
stands_ended s o reply.Invalid = stands_itself s
stands_ended s o reply.Taken = stands_itself s
stands_ended s o reply.NotChanged = stands_itself s
stands_ended s o (reply.Locked by) = stands_itself s
stands_ended s o reply.NotHeld = stands_itself s
stands_ended s o (reply.ChangedPage page) = stands_itself s
stands_ended s o (reply.Query query) = stands_itself s
stands_ended s o reply.Gone = stands_itself s
stands_ended s o reply.Cells = stands_itself s
stands_ended s o reply.Waits = stands_itself s
stands_ended s o reply.Raised = stands_itself s
stands_ended s o reply.NotRaised = stands_itself s
stands_ended s o (reply.Status status) = stands_itself s
stands_ended s o reply.NotLost = stands_itself s
stands_ended s o (reply.ClaimTaken by) = stands_itself s
stands_ended s o reply.Claimed = stands_itself s
stands_ended s o (reply.Drawn lrsn) = stands_itself s
stands_ended s o (reply.Stale index) = stands_itself s
stands_ended s o (reply.LrsnEnd at) = stands_itself s
