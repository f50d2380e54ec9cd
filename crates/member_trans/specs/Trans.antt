-- The transactions of a member, and what each call makes of them.
use Rattle.std.specs.Prelude.{ℕ, ◌+◌, ◌-◌, ◌==◌, Bool, true, false, not, ◌&&◌, ◌||◌, nat_le, nat_lt, if◌then◌else◌, List, [], ◌∷◌, ◌++◌, length, take, option_map, remove, replicate, slice_get, slice_set, slice_index_or, Option, Some, None, is_some, is_none}
use Rattle.ds_base.specs.declared.names.PageId.{PageId}
use Rattle.ds_model.specs.declared.lock.Name.{Name}
use Rattle.ds_model.specs.declared.lock.Name.TheVariants as name
use Rattle.ds_model.specs.declared.log.RowChange.{RowChange}
use Rattle.ds_model.specs.declared.fate.Refusal.{Refusal}
use Rattle.ds_model.specs.declared.fate.Refusal.TheVariants as refusal
use Rattle.member_trans.specs.declared.fate.Owner.{Owner}
use Rattle.member_trans.specs.declared.fate.Owner.TheVariants as owner
use Rattle.member_trans.specs.declared.fate.Stage.{Stage}
use Rattle.member_trans.specs.declared.fate.Stage.TheVariants as stage
use Rattle.member_trans.specs.declared.fate.Change.{Change}
use Rattle.member_trans.specs.declared.fate.Offer.{Offer}
use Rattle.member_trans.specs.declared.fate.Refused.{Refused}
use Rattle.member_trans.specs.Lists.{pushed}

-- the transaction of a slot, or a postponed rollback
pub record TranState : Type 0 where
  pub stage : Stage
  pub number : ℕ  -- in the script
  pub first : ℕ  -- the number of its first record in the log, 0 before there is one
  pub sets : List Bool  -- by page set, whether it has changed pages of it
  pub changes : List Change  -- its row changes that stand, the newest last
  pub undone : Bool  -- whether changes were taken back
  pub ended : ℕ  -- the number of its Ended record, 0 where there is none
  pub released : Bool  -- whether it has begun to give up its locks
  pub has_room : Bool  -- whether the memory for one more change was taken

pub record TransState : Type 0 where
  pub slots : List TranState
  pub rollbacks : List TranState  -- the postponed ones, each named by its `first`, the newest last
  pub room : ℕ  -- for how many more of them the memory was taken
  pub commits : List ℕ  -- slots whose Commit record waits in the log buffer, in its order
  pub decided : List ℕ  -- slots that this event has decided, in the log's order
  pub offer : Option Offer  -- the refusal that this event allows
  pub refused : Option Refused  -- the transaction that this event has refused
  pub answered : Option ℕ  -- the number of the decided transaction that has come to its end in this event
  pub place : ℕ  -- of this event in the journal

-- ---- one transaction

abbrev pub free_tran : TranState
free_tran = record { stage = stage.Free; number = 0; first = 0; sets = replicate 129 false; changes = []; undone = false; ended = 0; released = false; has_room = false }

abbrev pub begun : ℕ → TranState
begun n = record free_tran { stage = stage.Forward; number = n }

abbrev pub drawn : TranState → TranState
drawn t = record t { stage = stage.Drawn }

abbrev pub decided_tran : TranState → TranState
decided_tran t = record t { stage = stage.Decided }

abbrev pub undoing : TranState → TranState
undoing t = record t { stage = stage.Undoing }

abbrev pub with_room : TranState → TranState
with_room t = record t { has_room = true }

-- its number in the log where the record of this number is its first
abbrev pub first_with : ℕ → ℕ → ℕ
first_with first lrsn = if first == 0 then lrsn else first

abbrev pub changed : TranState → ℕ → RowChange → TranState
changed t lrsn c =
    if t.has_room then record t { first = first_with t.first lrsn; changes = t.changes ++ record { lrsn = lrsn; change = c } ∷ []; has_room = false }
    else t

abbrev pub with_set : TranState → ℕ → TranState
with_set t set = record t { sets = slice_set t.sets set true }

abbrev pub is_empty : List Change → Bool
is_empty cs = length cs == 0

-- the newest change that stands
abbrev pub newest_of : TranState → Option Change
newest_of t = slice_get t.changes (length t.changes - 1)

-- the newest change was taken back by the record of this number; the last one ends the transaction
abbrev pub with_undone : TranState → ℕ → TranState
with_undone t lrsn =
    if is_empty t.changes then t
    else record t { changes = take (length t.changes - 1) t.changes; undone = true; ended = if length t.changes == 1 then lrsn else t.ended }

abbrev pub with_released : TranState → TranState
with_released t = record t { released = true }

-- what the slot keeps of a transaction whose rollback is postponed
abbrev pub left_behind : TranState → TranState
left_behind t = record free_tran { stage = stage.Postponed; number = t.number }

-- a rollback that a restart left, by its first number, with the changes that stand; it has no number in the script
abbrev pub left_open : ℕ → List Change → Bool → TranState
left_open id changes undone = record free_tran { stage = stage.Undoing; first = id; changes = changes; undone = undone }

-- ---- stages

abbrev pub is_free : Stage → Bool
is_free stage.Free = true
is_free stage.Forward = false
is_free stage.Drawn = false
is_free stage.Decided = false
is_free stage.Undoing = false
is_free stage.Postponed = false

abbrev pub is_forward : Stage → Bool
is_forward stage.Free = false
is_forward stage.Forward = true
is_forward stage.Drawn = false
is_forward stage.Decided = false
is_forward stage.Undoing = false
is_forward stage.Postponed = false

abbrev pub is_drawn : Stage → Bool
is_drawn stage.Free = false
is_drawn stage.Forward = false
is_drawn stage.Drawn = true
is_drawn stage.Decided = false
is_drawn stage.Undoing = false
is_drawn stage.Postponed = false

abbrev pub is_decided : Stage → Bool
is_decided stage.Free = false
is_decided stage.Forward = false
is_decided stage.Drawn = false
is_decided stage.Decided = true
is_decided stage.Undoing = false
is_decided stage.Postponed = false

abbrev pub is_undoing : Stage → Bool
is_undoing stage.Free = false
is_undoing stage.Forward = false
is_undoing stage.Drawn = false
is_undoing stage.Decided = false
is_undoing stage.Undoing = true
is_undoing stage.Postponed = false

-- whether its rollback was postponed: nothing but the number is left
abbrev pub was_postponed : Stage → Bool
was_postponed stage.Free = false
was_postponed stage.Forward = false
was_postponed stage.Drawn = false
was_postponed stage.Decided = false
was_postponed stage.Undoing = false
was_postponed stage.Postponed = true

-- ---- all of them

abbrev pub tran_at : TransState → ℕ → TranState
tran_at s slot = slice_index_or s.slots slot free_tran

-- the place of the rollback among these, which are counted from k on
abbrev pub place_in : List TranState → ℕ → ℕ → Option ℕ
place_in [] k id = None
place_in (t ∷ ts) k id = if t.first == id then Some k else place_in ts (k + 1) id

abbrev pub place_of : TransState → ℕ → Option ℕ
place_of s id = place_in s.rollbacks 0 id

abbrev pub has_rollback : TransState → ℕ → Bool
has_rollback s id = is_some (place_of s id)

abbrev pub rollback_at : TransState → Option ℕ → TranState
rollback_at s None = free_tran
rollback_at s (Some k) = slice_index_or s.rollbacks k free_tran

-- the owner's transaction; a slot or rollback that isn't there is like a free slot
abbrev pub tran_of : TransState → Owner → TranState
tran_of s (owner.Slot slot) = tran_at s slot
tran_of s (owner.Rollback id) = rollback_at s (place_of s id)

-- whether the owner's transaction has changed pages of the page set
abbrev pub has_set : TransState → Owner → ℕ → Bool
has_set s o set = slice_index_or (tran_of s o).sets set false

abbrev pub with_tran : TransState → ℕ → TranState → TransState
with_tran s slot t = record s { slots = slice_set s.slots slot t }

abbrev pub with_rollback : TransState → Option ℕ → TranState → TransState
with_rollback s None t = s
with_rollback s (Some k) t = record s { rollbacks = slice_set s.rollbacks k t }

abbrev pub with_tran_of : TransState → Owner → TranState → TransState
with_tran_of s (owner.Slot slot) t = with_tran s slot t
with_tran_of s (owner.Rollback id) t = with_rollback s (place_of s id) t

abbrev pub with_set_of : TransState → Owner → ℕ → TransState
with_set_of s o set = with_tran_of s o (with_set (tran_of s o) set)

abbrev pub no_trans : ℕ → TransState
no_trans agents = record { slots = replicate (agents + 1) free_tran; rollbacks = []; room = agents; commits = []; decided = []; offer = None; refused = None; answered = None; place = 0 }

-- the transaction is decided; or it is undoing, none of its changes stands, and its Ended record, if there is one, stands in the log up to this number
abbrev pub is_over_at : TranState → ℕ → Bool
is_over_at t stable = is_decided t.stage || (is_undoing t.stage && (is_empty t.changes && nat_le t.ended stable))

-- a new transaction; slot 0 is the member's own
abbrev pub may_begin : TransState → ℕ → Bool
may_begin s slot = nat_lt 0 slot && (nat_lt slot (length s.slots) && is_free (tran_at s slot).stage)

abbrev pub after_begin : TransState → ℕ → ℕ → TransState
after_begin s slot n = if may_begin s slot then with_tran s slot (begun n) else s

abbrev pub with_room_for : TransState → ℕ → TransState
with_room_for s room = record s { room = room }

-- a transaction begins, with the memory for so many rollbacks taken
abbrev pub after_begin_with : TransState → ℕ → ℕ → ℕ → TransState
after_begin_with s slot n room = if may_begin s slot then with_room_for (with_tran s slot (begun n)) room else s

abbrev pub same_owner : Owner → Owner → Bool
same_owner (owner.Slot a) (owner.Slot b) = a == b
same_owner (owner.Slot a) (owner.Rollback b) = false
same_owner (owner.Rollback a) (owner.Slot b) = false
same_owner (owner.Rollback a) (owner.Rollback b) = a == b

-- whether the refusal that this event allows is the owner's
abbrev pub offers : Option Offer → Owner → Bool
offers None o = false
offers (Some it) o = same_owner it.owner o

abbrev pub is_page : Name → PageId → Bool
is_page (name.Space t) p = false
is_page (name.Row t k) p = false
is_page (name.Page q) p = (q.set == p.set) && (q.number == p.number)
is_page (name.Set n) p = false

-- the failed member that holds the lock of the page, where that is what the refusal says
abbrev pub retained_by : Refusal → PageId → Option ℕ
retained_by (refusal.Held n by) p = None
retained_by (refusal.Retained n by) p = if is_page n p then Some by else None
retained_by (refusal.Deadlock cycle) p = None
retained_by (refusal.SpaceFull t pages) p = None
retained_by (refusal.RecordsFull limit) p = None
retained_by (refusal.LrsnEnd at) p = None
retained_by refusal.Memory p = None
retained_by refusal.Aborted p = None

-- the same, where this event allows the owner such a refusal
abbrev pub offered_page : Option Offer → Owner → PageId → Option ℕ
offered_page None o p = None
offered_page (Some it) o p = if same_owner it.owner o then retained_by it.refusal p else None

abbrev pub without_offer : TransState → TransState
without_offer s = record s { offer = None }

-- a transaction goes forward, and this event has refused none yet
abbrev pub may_refuse : TransState → ℕ → Bool
may_refuse s slot = is_forward (tran_at s slot).stage && is_none s.refused

-- the transaction of the slot is refused
abbrev pub refused_for : TransState → ℕ → Refusal → ℕ → TransState
refused_for s slot r place =
    if may_refuse s slot
    then record s { slots = slice_set s.slots slot (undoing (tran_at s slot)); refused = Some (record { number = (tran_at s slot).number; refusal = r; place = place }) }
    else s

abbrev pub refused_as : TransState → ℕ → Option Offer → TransState
refused_as s slot None = s
refused_as s slot (Some o) = if same_owner o.owner (owner.Slot slot) then record (refused_for s slot o.refusal o.place) { offer = None } else s

abbrev pub after_refuse : TransState → ℕ → TransState
after_refuse s slot = if may_refuse s slot then refused_as s slot s.offer else s

abbrev pub after_offer : TransState → Owner → Refusal → ℕ → TransState
after_offer s o r place = record s { offer = Some (record { owner = o; refusal = r; place = place }) }

-- the Commit record of the slot's transaction was put
abbrev pub after_draw : TransState → ℕ → TransState
after_draw s slot = if is_forward (tran_at s slot).stage then record s { slots = slice_set s.slots slot (drawn (tran_at s slot)); commits = pushed s.commits slot } else s

-- these are decided
abbrev pub all_decided : List TranState → List ℕ → List TranState
all_decided ts [] = ts
all_decided ts (slot ∷ slots) = all_decided (slice_set ts slot (decided_tran (slice_index_or ts slot free_tran))) slots

abbrev pub after_decide : TransState → TransState
after_decide s = record s { slots = all_decided s.slots s.commits; commits = []; decided = s.commits }

-- the number that is answered where the slot's transaction has come to its end
abbrev pub answer_at_end : TransState → ℕ → Option ℕ
answer_at_end s slot = if is_decided (tran_at s slot).stage then Some (tran_at s slot).number else s.answered

abbrev pub slot_ended : TransState → ℕ → TransState
slot_ended s slot = record s { slots = slice_set s.slots slot free_tran; answered = answer_at_end s slot }

abbrev pub rollback_ended : TransState → Option ℕ → TransState
rollback_ended s None = s
rollback_ended s (Some k) = record s { rollbacks = remove s.rollbacks k; room = s.room + 1 }

abbrev pub after_end : TransState → Owner → TransState
after_end s (owner.Slot slot) = slot_ended s slot
after_end s (owner.Rollback id) = rollback_ended s (place_of s id)

-- ---- rollbacks

-- a number by which no rollback is named yet
abbrev pub is_new : TransState → ℕ → Bool
is_new s id = not (id == 0) && not (has_rollback s id)

abbrev pub has_room_for : TransState → ℕ → Bool
has_room_for s id = is_new s id && nat_lt 0 s.room

abbrev pub can_postpone : TransState → TranState → Bool
can_postpone s t = is_undoing t.stage && (not (is_empty t.changes) && has_room_for s t.first)

-- the slot's transaction is undoing, a change of it stands, and there is room for its rollback
abbrev pub may_postpone : TransState → ℕ → Bool
may_postpone s slot = can_postpone s (tran_at s slot)

-- the slot's transaction is a rollback now
abbrev pub with_postponed : TransState → ℕ → TranState → TransState
with_postponed s slot t = record s { slots = slice_set s.slots slot (left_behind t); rollbacks = s.rollbacks ++ t ∷ []; room = s.room - 1 }

abbrev pub after_postpone : TransState → ℕ → TransState
after_postpone s slot = if may_postpone s slot then with_postponed s slot (tran_at s slot) else s

abbrev pub postponed_as : TransState → ℕ → Option ℕ
postponed_as s slot = if may_postpone s slot then Some (tran_at s slot).first else None

-- a restart left a rollback of which a change stands, and there is room for it
abbrev pub may_adopt : TransState → ℕ → List Change → Bool
may_adopt s id changes = not (is_empty changes) && has_room_for s id

abbrev pub with_adopted : TransState → ℕ → List Change → Bool → TransState
with_adopted s id changes undone = record s { rollbacks = s.rollbacks ++ left_open id changes undone ∷ []; room = s.room - 1 }

abbrev pub after_adopt : TransState → ℕ → List Change → Bool → TransState
after_adopt s id changes undone = if may_adopt s id changes then with_adopted s id changes undone else s

-- the first number of the rollback at this place in their order
abbrev pub rollback_id : TransState → ℕ → Option ℕ
rollback_id s at = option_map (λ (t : TranState). t.first) (slice_get s.rollbacks at)

-- as at the start, with the room that there is
abbrev pub after_reset : TransState → TransState
after_reset s = record { slots = replicate (length s.slots) free_tran; rollbacks = []; room = s.room + length s.rollbacks; commits = []; decided = []; offer = None; refused = None; answered = None; place = 0 }

-- a new event
abbrev pub after_event : TransState → ℕ → TransState
after_event s place = record s { decided = []; offer = None; refused = None; answered = None; place = place }
