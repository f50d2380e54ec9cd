-- The moves that need no event, and what they reach.
use Rattle.std.specs.Prelude.{◌≡◌, ℕ, Bool, true, false, if◌then◌else◌, List, [], ◌∷◌, ◌++◌}
use Rattle.std.proofs.Common.{◌∙◌, ap, refl, sym}
use Rattle.ds_base.specs.declared.names.PageId.{PageId}
use Rattle.ds_model.specs.declared.lock.Name.{Name}
use Rattle.ds_model.specs.declared.fate.Refusal.TheVariants as refusal
use Rattle.lock_names.specs.declared.mode.Mode.{Mode}
use Rattle.lock_manager.specs.declared.claim.Ask.{Ask}
use Rattle.lock_manager.specs.declared.claim.Ask.TheVariants as ask
use Rattle.lock_manager.specs.Managers.{Book, ask_of, given}
use Rattle.member_trans.specs.Trans.{TransState, may_begin, after_begin_with, after_refuse, refused_for}
use Rattle.member_marks.specs.declared.trial.Trial.{Trial}
use Rattle.member_marks.specs.declared.trial.Trial.TheVariants as trial
use Rattle.member_marks.specs.State.{MarksState, slot_id, with_locks, with_trans}
use Rattle.member_marks.specs.Claims.{may_claim, offered_held, offered_retained, offered_memory}
use Rattle.member_marks.specs.Frames.{after_place, after_pin, after_unpin}
use Rattle.member_marks.specs.Rollbacks.{after_postpone, after_wait}

pub data Local : Type 0 where
  -- slot, name and mode; whether there was memory, and for how many more claims there is room then
  Claim : ℕ → Name → Mode → Bool → ℕ → Local
  -- slot and number; whether there was memory, and for how many more rollbacks there is room then, for claims and for transactions
  Begin : ℕ → ℕ → Bool → ℕ → ℕ → Local
  Refuse : ℕ → Local
  Abort : ℕ → Local
  RefuseForMemory : ℕ → Local
  Place : PageId → Local
  Pin : ℕ → Local
  Unpin : ℕ → Local
  Postpone : ℕ → Local
  WaitFor : ℕ → Local

-- ---- a trial at home

-- the claim is entered, and room is left for so many more
abbrev pub given_with : Book → ℕ → ℕ → Name → Mode → Book
given_with b spare slot n m = record (given b slot n m) { spare = spare }

abbrev pub entered_at_home : MarksState → ℕ → Name → Mode → ℕ → Bool → ℕ → MarksState
entered_at_home s slot n m event has_memory spare =
    if has_memory then with_locks s (given_with s.locks spare slot n m)
    else offered_memory (with_locks s (record s.locks { spare = spare })) slot event

abbrev pub tried_as : MarksState → ℕ → Name → Mode → ℕ → Bool → ℕ → Ask → MarksState
tried_as s slot n m event has_memory spare ask.Have = s
tried_as s slot n m event has_memory spare (ask.Conflict by) = offered_held s slot n by event
tried_as s slot n m event has_memory spare (ask.Postponed by) = offered_retained s slot n by event
tried_as s slot n m event has_memory spare ask.Local = entered_at_home s slot n m event has_memory spare
tried_as s slot n m event has_memory spare (ask.Facility more) = s

abbrev pub after_claim : MarksState → ℕ → Name → Mode → ℕ → Bool → ℕ → MarksState
after_claim s slot n m event has_memory spare = if may_claim s slot n then tried_as s slot n m event has_memory spare (ask_of s.locks slot n m) else s

abbrev pub home_told : Bool → Trial
home_told has_memory = if has_memory then trial.Have else trial.NoMemory

abbrev pub trial_as : MarksState → Bool → Ask → Trial
trial_as s has_memory ask.Have = trial.Have
trial_as s has_memory (ask.Conflict by) = trial.Conflict (slot_id s by)
trial_as s has_memory (ask.Postponed by) = trial.Postponed by
trial_as s has_memory ask.Local = home_told has_memory
trial_as s has_memory (ask.Facility more) = trial.ToObtain more

-- what the trial comes to
abbrev pub trial_of : MarksState → ℕ → Name → Mode → Bool → Trial
trial_of s slot n m has_memory = if may_claim s slot n then trial_as s has_memory (ask_of s.locks slot n m) else trial.NotForward

-- whether there was memory
abbrev pub had_memory : Trial → Bool
had_memory trial.Have = true
had_memory (trial.ToObtain m) = true
had_memory (trial.Conflict by) = true
had_memory (trial.Postponed by) = true
had_memory trial.NoMemory = false
had_memory trial.NotForward = true

-- ---- a transaction begins

abbrev pub with_lock_room : MarksState → ℕ → MarksState
with_lock_room s room = with_locks s (record s.locks { room = room })

abbrev pub begun_with : TransState → ℕ → ℕ → Bool → ℕ → TransState
begun_with t slot n has_memory room = if has_memory then after_begin_with t slot n room else t

abbrev pub after_begin : MarksState → ℕ → ℕ → Bool → ℕ → ℕ → MarksState
after_begin s slot n has_memory lock_room room =
    if may_begin s.trans slot then with_trans (with_lock_room s lock_room) (begun_with s.trans slot n has_memory room) else s

-- ---- all moves

-- a move that isn't allowed changes nothing; what one refuses, or allows to be refused, is of this event
abbrev pub moved : Local → MarksState → MarksState
moved (Claim slot n m has_memory spare) s = after_claim s slot n m s.trans.place has_memory spare
moved (Begin slot n has_memory lock_room room) s = after_begin s slot n has_memory lock_room room
moved (Refuse slot) s = with_trans s (after_refuse s.trans slot)
moved (Abort slot) s = with_trans s (refused_for s.trans slot refusal.Aborted s.trans.place)
moved (RefuseForMemory slot) s = with_trans s (refused_for s.trans slot refusal.Memory s.trans.place)
moved (Place p) s = after_place s p
moved (Pin at) s = after_pin s at
moved (Unpin at) s = after_unpin s at
moved (Postpone slot) s = after_postpone s slot
moved (WaitFor id) s = after_wait s id

abbrev pub all_moved : List Local → MarksState → MarksState
all_moved [] s = s
all_moved (x ∷ xs) s = all_moved xs (moved x s)

-- by some local moves
unfoldable pub Reaches : MarksState → MarksState → Type 0
Reaches s t = (xs : List Local) × (t ≡ all_moved xs s)

abbrev pub ReachesOn : Type 0
ReachesOn = (s t u : MarksState) → Reaches s t → Reaches t u → Reaches s u

pub stays : (s : MarksState) → Reaches s s
unfolding Reaches
stays s = ([], refl)

pub by_one : (s t : MarksState) (x : Local) → t ≡ moved x s → Reaches s t
unfolding Reaches
by_one s t x e = (x ∷ [], e)

all_both : (xs ys : List Local) (s : MarksState) → all_moved (xs ++ ys) s ≡ all_moved ys (all_moved xs s)
all_both [] ys s = refl
all_both (x ∷ xs) ys s = all_both xs ys (moved x s)

pub on : ReachesOn
unfolding Reaches
on s t u a b = (a.0 ++ b.0, b.1 ∙ (ap (all_moved b.0) a.1 ∙ sym (all_both a.0 b.0 s)))
