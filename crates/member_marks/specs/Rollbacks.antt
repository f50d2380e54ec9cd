-- Postponed rollbacks: how they come, and for whom they wait.
use Rattle.std.specs.Prelude.{ℕ, Bool, not, ◌&&◌, nat_lt, if◌then◌else◌, Option, Some, None, is_some, option_map, List, [], ◌∷◌, ◌++◌, length, map, reverse}
use Rattle.ds_base.specs.declared.names.PageId.{PageId}
use Rattle.ds_model.specs.declared.lock.Name.TheVariants as name
use Rattle.ds_model.specs.declared.log.RowChange.{RowChange}
use Rattle.ds_model.specs.Rows.{Spot}
use Rattle.lock_names.specs.declared.mode.Mode.TheVariants.{IX, X}
use Rattle.lock_manager.specs.Managers.{Book, given, with_claims, is_postponed, postponed_for, waiting_at, emptied, after_postpone as claims_postponed}
use Rattle.member_pool.specs.Heads.{all_free}
use Rattle.member_log.specs.Buffers.{empty_buffer}
use Rattle.member_trans.specs.declared.fate.Change.{Change}
use Rattle.member_trans.specs.declared.fate.Owner.{Owner}
use Rattle.member_trans.specs.declared.fate.Owner.TheVariants as owner
use Rattle.member_trans.specs.Trans.{is_empty, is_free, is_new, offered_page, without_offer, with_room_for, with_adopted, rollback_id, may_postpone as may_postpone_tran, after_postpone as tran_postponed, after_reset as trans_reset}
use Rattle.member_marks.specs.Names.{NameSet, no_names, with_spots}
use Rattle.member_marks.specs.State.{MarksState, slot_tran}
use Rattle.member_marks.specs.Claims.{is_agent, lock_place}
use Rattle.member_marks.specs.Records.{undo_page}

-- the failed member that retains this page, where this event says so of the owner
abbrev pub retainer_of : MarksState → Owner → Option PageId → Option ℕ
retainer_of s o None = None
retainer_of s o (Some p) = offered_page s.trans.offer o p

-- the failed member that retains the page which the owner must change next to take its transaction back
abbrev pub retainer : MarksState → Owner → Option ℕ
retainer s o = retainer_of s o (undo_page s o)

-- ---- a slot's rollback is postponed

-- the slot's transaction is undoing, a change of it stands, and there is room for its rollback
abbrev pub can_postpone : MarksState → ℕ → Bool
can_postpone s slot = is_agent s slot && (may_postpone_tran s.trans slot && (nat_lt 0 s.locks.room && not (is_postponed s.locks (slot_tran s slot).first)))

-- claims and changes are those of a rollback that waits for this member
abbrev pub with_postponed : MarksState → ℕ → ℕ → MarksState
with_postponed s slot by = record s { locks = claims_postponed s.locks slot (slot_tran s slot).first by; trans = without_offer (tran_postponed s.trans slot) }

abbrev pub postponed_for_member : MarksState → ℕ → Option ℕ → MarksState
postponed_for_member s slot None = s
postponed_for_member s slot (Some by) = with_postponed s slot by

abbrev pub after_postpone : MarksState → ℕ → MarksState
after_postpone s slot = if can_postpone s slot then postponed_for_member s slot (retainer s (owner.Slot slot)) else s

abbrev pub may_postpone : MarksState → ℕ → Bool
may_postpone s slot = can_postpone s slot && is_some (retainer s (owner.Slot slot))

-- the name of the rollback
abbrev pub postponed_as : MarksState → ℕ → Option ℕ
postponed_as s slot = if may_postpone s slot then Some (slot_tran s slot).first else None

-- ---- a rollback waits on

abbrev pub waiting_for : MarksState → ℕ → Option ℕ → MarksState
waiting_for s id None = s
waiting_for s id (Some by) = record s { locks = record s.locks { rollbacks = waiting_at s.locks.rollbacks (lock_place s id) id by }; trans = without_offer s.trans }

abbrev pub after_wait : MarksState → ℕ → MarksState
after_wait s id = if is_postponed s.locks id then waiting_for s id (retainer s (owner.Rollback id)) else s

abbrev pub may_wait : MarksState → ℕ → Bool
may_wait s id = is_postponed s.locks id && is_some (retainer s (owner.Rollback id))

-- ---- the rollbacks in their order, each with the member that it waits for

abbrev pub with_member : MarksState → Option ℕ → Option (ℕ × ℕ)
with_member s None = None
with_member s (Some id) = option_map (λ by. (id, by)) (postponed_for s.locks (lock_place s id))

abbrev pub postponed_at : MarksState → ℕ → Option (ℕ × ℕ)
postponed_at s at = with_member s (rollback_id s.trans at)

-- ---- a restart leaves a rollback

abbrev pub row_changed : RowChange → Spot
row_changed c = (c.table, c.key)

abbrev pub row_of : Change → Spot
row_of c = row_changed c.change

-- the rows of the changes that stand, the newest first, and of those that were taken back
abbrev pub spots_of : List Change → List RowChange → List Spot
spots_of changes undone = reverse (map row_of changes) ++ map row_changed undone

abbrev pub spot_claimed : Book → Spot → Book
spot_claimed b s = given (given b 1 (name.Space s.0) IX) 1 (name.Row s.0 s.1) X

-- slot 1 claims each row and its table space
abbrev pub claimed : Book → List Spot → Book
claimed b [] = b
claimed b (s ∷ ss) = claimed (spot_claimed b s) ss

-- a rollback that waits for this member claims each row and its table space; slot 1, which has no claims, lends them its place
abbrev pub claims_adopted : Book → ℕ → ℕ → List Spot → Book
claims_adopted b id by spots = claims_postponed (claimed (with_claims b 1 []) spots) 1 id by

-- slot 1 is there and free, a change stands, and no rollback has this first number yet
abbrev pub may_adopt : MarksState → ℕ → List Change → Bool
may_adopt s id changes = is_agent s 1 && (is_free (slot_tran s 1).stage && (not (is_postponed s.locks id) && (not (is_empty changes) && is_new s.trans id)))

abbrev pub adopted_in : MarksState → ℕ → ℕ → List Change → Bool → List Spot → NameSet → MarksState
adopted_in s id by changes undone spots kept = record s { locks = claims_adopted s.locks id by spots; trans = with_adopted s.trans id changes undone; kept = kept }

-- the rollback waits for this member; the records of the rows that it has changed, and of their table spaces, are known as retained
abbrev pub with_rollback : MarksState → ℕ → ℕ → List Change → List RowChange → MarksState
with_rollback s id by changes undone = adopted_in s id by changes (nat_lt 0 (length undone)) (spots_of changes undone) (with_spots s.kept (spots_of changes undone))

abbrev pub after_adopt : MarksState → ℕ → ℕ → List Change → List RowChange → MarksState
after_adopt s id by changes undone = if may_adopt s id changes then with_rollback s id by changes undone else s

-- with the room that the other has
abbrev pub with_room_of : MarksState → MarksState → MarksState
with_room_of s t = record s { locks = record s.locks { spare = t.locks.spare; room = t.locks.room }; trans = with_room_for s.trans t.trans.room }

-- ---- as at the start, with the room that there is

abbrev pub after_reset : MarksState → MarksState
after_reset s = record { locks = emptied s.locks; heads = all_free (length s.heads.frames); log = empty_buffer s.log.size; trans = trans_reset s.trans; kept = no_names; member = s.member }
