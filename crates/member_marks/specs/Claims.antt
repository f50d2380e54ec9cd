-- Claims on locks: what is told of them, and how they come and go.
use Rattle.std.specs.Prelude.{ℕ, Bool, true, false, ◌&&◌, ◌||◌, nat_le, nat_lt, if◌then◌else◌, Option, Some, None, is_some, length, [], ◌≡◌}
use Rattle.ds_base.specs.declared.names.PageId.{PageId}
use Rattle.ds_model.specs.declared.lock.Name.{Name}
use Rattle.ds_model.specs.declared.lock.Name.TheVariants as name
use Rattle.ds_model.specs.declared.fate.Refusal.{Refusal}
use Rattle.ds_model.specs.declared.fate.Refusal.TheVariants as refusal
use Rattle.lock_names.specs.declared.mode.Mode.{Mode}
use Rattle.lock_names.specs.declared.mode.Mode.TheVariants.{X}
use Rattle.lock_names.specs.declared.mode.Interest.{Interest}
use Rattle.list_structure.specs.declared.query.CellAnswer.{CellAnswer}
use Rattle.list_structure.specs.declared.query.CellAnswer.TheVariants as cell
use Rattle.lock_manager.specs.declared.claim.Ask.{Ask}
use Rattle.lock_manager.specs.declared.claim.Ask.TheVariants as ask
use Rattle.lock_manager.specs.declared.claim.LockAnswer.{LockAnswer}
use Rattle.lock_manager.specs.declared.claim.LockAnswer.TheVariants as answer
use Rattle.lock_manager.specs.Holders.{is_held}
use Rattle.lock_manager.specs.Managers.{claims_of, held_by, ask_of, answer_of, given, IsGiven, release_told, after_release, page_told, after_page_release, with_claims, place_in, held_postponed, postponed_told, after_postponed_release, dropped}
use Rattle.member_trans.specs.declared.fate.Owner.{Owner}
use Rattle.member_trans.specs.declared.fate.Owner.TheVariants as owner
use Rattle.member_trans.specs.Trans.{is_forward, with_tran_of, with_released, after_offer, after_end}
use Rattle.member_marks.specs.declared.trial.Trial.{Trial}
use Rattle.member_marks.specs.declared.trial.Trial.TheVariants as trial
use Rattle.member_marks.specs.State.{MarksState, agents_of, tran_of, slot_tran, slot_id, with_locks, with_trans}

-- a slot from 1 on that the member has
abbrev pub is_agent : MarksState → ℕ → Bool
is_agent s slot = nat_lt 0 slot && nat_le slot (agents_of s)

abbrev pub is_for_agents : Name → Bool
is_for_agents (name.Space t) = true
is_for_agents (name.Row t k) = true
is_for_agents (name.Page p) = false
is_for_agents (name.Set n) = false

abbrev pub may_claim : MarksState → ℕ → Name → Bool
may_claim s slot n = is_agent s slot && (is_forward (slot_tran s slot).stage && is_for_agents n)

-- the place of a rollback's claims among those of the rollbacks
abbrev pub lock_place : MarksState → ℕ → Option ℕ
lock_place s id = place_in s.locks.rollbacks 0 id

abbrev pub mode_held : MarksState → Owner → Name → Option Mode
mode_held s (owner.Slot slot) n = if nat_le slot (agents_of s) then held_by s.locks slot n else None
mode_held s (owner.Rollback id) n = held_postponed s.locks (lock_place s id) n

-- whether an owner has a claim on the name
abbrev pub is_claimed : MarksState → Name → Bool
is_claimed s n = is_held s.locks.holders n

abbrev pub has_page : MarksState → PageId → Bool
has_page s p = is_some (held_by s.locks 0 (name.Page p))

abbrev pub has_page_room : MarksState → Bool
has_page_room s = nat_lt (length (claims_of s.locks 0)) s.locks.pages

-- ---- what is told

abbrev pub cell_for : MarksState → LockAnswer → CellAnswer
cell_for s answer.Clean = cell.Clean
cell_for s (answer.Conflict by) = cell.Conflict (slot_id s by)
cell_for s (answer.Postponed m) = cell.Postponed m

abbrev pub answer_to : MarksState → Name → Mode → CellAnswer
answer_to s n m = cell_for s (answer_of s.locks n m)

-- the name that the rollback gives up next
abbrev pub rollback_releasing : MarksState → ℕ → Option (Name × Interest)
rollback_releasing s id = postponed_told s.locks (lock_place s id)

abbrev pub releasing : MarksState → Owner → Option (Name × Interest)
releasing s (owner.Slot slot) = if nat_le slot (agents_of s) then release_told s.locks slot else None
releasing s (owner.Rollback id) = rollback_releasing s id

abbrev pub releasing_page : MarksState → PageId → Option (Name × Interest)
releasing_page s p = if has_page s p then Some (name.Page p, page_told s.locks (name.Page p)) else None

-- ---- refusals that an event allows

abbrev pub offered : MarksState → Owner → Refusal → ℕ → MarksState
offered s o r place = with_trans s (after_offer s.trans o r place)

abbrev pub offered_held : MarksState → ℕ → Name → ℕ → ℕ → MarksState
offered_held s slot n by event = offered s (owner.Slot slot) (refusal.Held n (slot_id s by)) event

abbrev pub offered_retained : MarksState → ℕ → Name → ℕ → ℕ → MarksState
offered_retained s slot n by event = offered s (owner.Slot slot) (refusal.Retained n by) event

abbrev pub offered_memory : MarksState → ℕ → ℕ → MarksState
offered_memory s slot event = offered s (owner.Slot slot) refusal.Memory event

-- ---- a granted lock

abbrev pub has_spare : MarksState → Bool
has_spare s = nat_lt 0 s.locks.spare

abbrev pub entered : MarksState → ℕ → Name → Mode → ℕ → MarksState
entered s slot n m event = if has_spare s then with_locks s (given s.locks slot n m) else offered_memory s slot event

abbrev pub entered_as : MarksState → ℕ → Name → Mode → ℕ → Ask → MarksState
entered_as s slot n m event ask.Have = entered s slot n m event
entered_as s slot n m event (ask.Conflict by) = offered_held s slot n by event
entered_as s slot n m event (ask.Postponed by) = offered_retained s slot n by event
entered_as s slot n m event ask.Local = entered s slot n m event
entered_as s slot n m event (ask.Facility more) = entered s slot n m event

abbrev pub after_enter : MarksState → ℕ → Name → Mode → ℕ → MarksState
after_enter s slot n m event = if may_claim s slot n then entered_as s slot n m event (ask_of s.locks slot n m) else s

abbrev pub entry : MarksState → Trial
entry s = if has_spare s then trial.Have else trial.NoMemory

abbrev pub entry_as : MarksState → Ask → Trial
entry_as s ask.Have = entry s
entry_as s (ask.Conflict by) = trial.Conflict (slot_id s by)
entry_as s (ask.Postponed by) = trial.Postponed by
entry_as s ask.Local = entry s
entry_as s (ask.Facility more) = entry s

abbrev pub enter_told : MarksState → ℕ → Name → Mode → Trial
enter_told s slot n m = if may_claim s slot n then entry_as s (ask_of s.locks slot n m) else trial.NotForward

-- ---- a page's lock

abbrev pub may_enter_page : MarksState → PageId → Bool
may_enter_page s p = has_page_room s || has_page s p

-- the page is claimed in X, where that may be
abbrev pub PageEntered : Bool → MarksState → PageId → MarksState → Type 0
PageEntered true s p t = IsGiven s.locks 0 (name.Page p) X t.locks × (t ≡ with_locks s t.locks)
PageEntered false s p t = t ≡ s

-- ---- claims are given up

abbrev pub noted_released : MarksState → Owner → MarksState
noted_released s o = with_trans s (with_tran_of s.trans o (with_released (tran_of s o)))

abbrev pub slot_released : MarksState → ℕ → MarksState
slot_released s slot = if is_agent s slot then with_locks (noted_released s (owner.Slot slot)) (after_release s.locks slot) else s

-- a rollback that has no name left to give up keeps its other claims until it is ended
abbrev pub rollback_released : MarksState → ℕ → MarksState
rollback_released s id =
    if is_some (rollback_releasing s id)
    then with_locks (noted_released s (owner.Rollback id)) (after_postponed_release s.locks (lock_place s id))
    else s

abbrev pub after_release_of : MarksState → Owner → MarksState
after_release_of s (owner.Slot slot) = slot_released s slot
after_release_of s (owner.Rollback id) = rollback_released s id

abbrev pub released_told : MarksState → Owner → Option (Name × Interest)
released_told s (owner.Slot slot) = if is_agent s slot then release_told s.locks slot else None
released_told s (owner.Rollback id) = rollback_releasing s id

abbrev pub after_release_page : MarksState → PageId → MarksState
after_release_page s p = if has_page s p then with_locks s (after_page_release s.locks (name.Page p)) else s

abbrev pub page_released_told : MarksState → PageId → Option Interest
page_released_told s p = if has_page s p then Some (page_told s.locks (name.Page p)) else None

abbrev pub slot_over : MarksState → ℕ → MarksState
slot_over s slot =
    if is_agent s slot
    then record s { locks = with_claims s.locks slot []; trans = after_end s.trans (owner.Slot slot) }
    else s

abbrev pub rollback_over : MarksState → ℕ → MarksState
rollback_over s id = record s { locks = dropped s.locks (lock_place s id); trans = after_end s.trans (owner.Rollback id) }

-- the slot is free, or the rollback is gone, and no claim of it is left
abbrev pub after_end_of : MarksState → Owner → MarksState
after_end_of s (owner.Slot slot) = slot_over s slot
after_end_of s (owner.Rollback id) = rollback_over s id
