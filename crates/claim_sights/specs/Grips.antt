-- The claims that are in the way of a lock.
use Rattle.std.specs.Prelude.{ℕ, ◌+◌, ◌&&◌, Bool, true, false, not, if◌then◌else◌, List, [], ◌∷◌, ◌++◌, map, Option, Some, None}
use Rattle.std.specs.List.{flat_map, range_with_len}
use Rattle.ds_base.specs.declared.names.TranId.{TranId}
use Rattle.lock_names.specs.Modes.{are_compatible}
use Rattle.lock_names.specs.declared.mode.Mode.{Mode}
use Rattle.lock_sights.specs.declared.sight.Grip.{Grip}
use Rattle.lock_sights.specs.declared.locks.Lock.{Lock}
use Rattle.member_trans.specs.declared.fate.Owner.{Owner}
use Rattle.member_trans.specs.declared.fate.Owner.TheVariants as owner
use Rattle.member_trans.specs.Trans.{TranState}
use Rattle.member_marks.specs.Claims.{mode_held}
use Rattle.member_marks.specs.Rollbacks.{with_member}
use Rattle.member_marks.specs.State.{MarksState, agents_of, id_of}
use Rattle.claim_sights.specs.Seats.{are_same}

-- ---- who may claim locks of a member: its slots, and its postponed rollbacks in their order

abbrev pub slot_owner : ℕ → Owner
slot_owner at = owner.Slot (at + 1)

abbrev pub slot_owners : ℕ → List Owner
slot_owners n = map slot_owner (range_with_len 0 n)

abbrev pub or_end : Option (ℕ × ℕ) → List Owner → List Owner
or_end None rest = []
or_end (Some waiting) rest = owner.Rollback waiting.0 ∷ rest

-- up to the first one that waits for no member, which none does
abbrev pub rollback_owners : MarksState → List TranState → List Owner
rollback_owners marks [] = []
rollback_owners marks (t ∷ ts) = or_end (with_member marks (Some t.first)) (rollback_owners marks ts)

abbrev pub owners_of : MarksState → List Owner
owners_of marks = slot_owners (agents_of marks) ++ rollback_owners marks marks.trans.rollbacks

-- ---- their claims

abbrev pub claim_of : MarksState → Owner → Mode → Grip
claim_of marks o held = record { tran = id_of marks o; owner = o; mode = held; since = 0 }

abbrev pub grip_with : MarksState → Owner → Mode → TranId → Option Mode → List Grip
grip_with marks o m tran None = []
grip_with marks o m tran (Some held) = if not (are_same (id_of marks o) tran) && not (are_compatible held m) then claim_of marks o held ∷ [] else []

-- the owner's claim, where another transaction has it, and it is in the way of the lock
abbrev pub grip_of : MarksState → Lock → TranId → Owner → List Grip
grip_of marks lock tran o = grip_with marks o lock.mode tran (mode_held marks o lock.name)

-- those of a member
abbrev pub grips_of : MarksState → Lock → TranId → List Grip
grips_of marks lock tran = flat_map (grip_of marks lock tran) (owners_of marks)

-- those of all members
abbrev pub all_grips : List MarksState → Lock → TranId → List Grip
all_grips all lock tran = flat_map (λ marks. grips_of marks lock tran) all
