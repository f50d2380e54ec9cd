-- The moves that need no event, and what they reach.
use Rattle.std.specs.Prelude.{◌≡◌, ℕ, ◌-◌, ◌==◌, nat_le, Bool, true, false, not, ◌&&◌, ◌||◌, if◌then◌else◌, List, [], ◌∷◌, ◌++◌, length, slice_get, Option, Some, None, is_some, is_none}
use Rattle.std.proofs.Common.{◌∙◌, ap, refl, sym}
use Rattle.ds_base.specs.declared.names.PageId.{PageId}
use Rattle.ds_model.specs.declared.log.LogRecord.{LogRecord}
use Rattle.ds_model.specs.declared.log.Body.TheVariants as body
use Rattle.ds_model.specs.declared.log.Version.TheVariants as version
use Rattle.ds_model.specs.RecordBytes.{record_bytes}
use Rattle.member_log.specs.Buffers.{LogBuffer, room_of, after_put}
use Rattle.restart_marks.specs.declared.hand.Hand.{Hand}
use Rattle.restart_records.specs.declared.queue.TurnKey.{TurnKey}
use Rattle.restart_records.specs.Trans.{is_undone, page_undone, after_end}
use Rattle.restart_marks.specs.State.{RestartState, with_hand, with_log, with_trans, no_hand}

pub data Local : Type 0 where
  TakeUpRetained : Local
  TakeUpUndone : ℕ → Local
  PutDown : Local
  Close : ℕ → Local

-- ---- a page is taken up

abbrev pub hand_with : PageId → Option TurnKey → Hand
hand_with p key = record no_hand { page = Some p; key = key }

abbrev pub retained_from : RestartState → Option TurnKey → RestartState
retained_from s None = s
retained_from s (Some key) = with_hand s (hand_with key.page (Some key))

abbrev pub may_take_retained : RestartState → Bool
may_take_retained s = is_none s.hand.page && is_some (slice_get s.pages 0)

-- the first retained page
abbrev pub retained_taken : RestartState → RestartState
retained_taken s = if is_none s.hand.page then retained_from s (slice_get s.pages 0) else s

-- all retained locks are known, and none is of a page
abbrev pub is_recovered : RestartState → Bool
is_recovered s = s.is_listed && (length s.pages == 0)

abbrev pub undone_from : RestartState → Option PageId → RestartState
undone_from s None = s
undone_from s (Some p) = with_hand s (hand_with p None)

abbrev pub may_take_undone : RestartState → ℕ → Bool
may_take_undone s id = is_none s.hand.page && is_recovered s && is_some (page_undone s.trans id)

-- the page of the newest change that stands
abbrev pub undone_taken : RestartState → ℕ → RestartState
undone_taken s id = if is_none s.hand.page && is_recovered s then undone_from s (page_undone s.trans id) else s

-- ---- it is put aside

abbrev pub is_same : PageId → PageId → Bool
is_same p q = (p.set == q.set) && (p.number == q.number)

abbrev pub is_claimed_as : Option PageId → PageId → Bool
is_claimed_as None p = false
is_claimed_as (Some q) p = is_same q p

abbrev pub is_claimed : RestartState → PageId → Bool
is_claimed s p = is_claimed_as s.claim p

abbrev pub claims_hand : Option PageId → Option PageId → Bool
claims_hand claim None = false
claims_hand claim (Some p) = is_claimed_as claim p

abbrev pub may_put_down : Hand → Option PageId → Bool
may_put_down h claim = not (claims_hand claim h.page) && (not h.changed || is_some h.key)

abbrev pub put_down : RestartState → RestartState
put_down s = if may_put_down s.hand s.claim then with_hand s no_hand else s

-- ---- a transaction is closed

abbrev pub fits_in : LogBuffer → LogRecord → Bool
fits_in b r = nat_le (length (record_bytes r)) (room_of b)

-- the buffer with the record, if there is room for it
abbrev pub logged : LogBuffer → LogRecord → LogBuffer
logged b r = if fits_in b r then after_put b r else b

-- the number is that of the record before it
abbrev pub closing_record : RestartState → ℕ → LogRecord
closing_record s id = record { version = version.Two; lrsn = s.log.last; tran = id; body = body.Ended }

abbrev pub may_close : RestartState → ℕ → Bool
may_close s id = not (id == 0) && (not (is_some s.trans.ending) && (is_undone s.trans id && fits_in s.log (closing_record s id)))

abbrev pub closed : RestartState → ℕ → RestartState
closed s id = if may_close s id then record s { log = after_put s.log (closing_record s id); trans = after_end s.trans id } else s

-- ---- all moves

-- a move that isn't allowed changes nothing
abbrev pub moved : Local → RestartState → RestartState
moved TakeUpRetained s = retained_taken s
moved (TakeUpUndone id) s = undone_taken s id
moved PutDown s = put_down s
moved (Close id) s = closed s id

abbrev pub all_moved : List Local → RestartState → RestartState
all_moved [] s = s
all_moved (x ∷ xs) s = all_moved xs (moved x s)

-- by some local moves
unfoldable pub Reaches : RestartState → RestartState → Type 0
Reaches s t = (xs : List Local) × (t ≡ all_moved xs s)

abbrev pub ReachesOn : Type 0
ReachesOn = (s t u : RestartState) → Reaches s t → Reaches t u → Reaches s u

pub stays : (s : RestartState) → Reaches s s
unfolding Reaches
stays s = ([], refl)

pub by_one : (s t : RestartState) (x : Local) → t ≡ moved x s → Reaches s t
unfolding Reaches
by_one s t x e = (x ∷ [], e)

all_both : (xs ys : List Local) (s : RestartState) → all_moved (xs ++ ys) s ≡ all_moved ys (all_moved xs s)
all_both [] ys s = refl
all_both (x ∷ xs) ys s = all_both xs ys (moved x s)

pub on : ReachesOn
unfolding Reaches
on s t u a b = (a.0 ++ b.0, b.1 ∙ (ap (all_moved b.0) a.1 ∙ sym (all_both a.0 b.0 s)))
