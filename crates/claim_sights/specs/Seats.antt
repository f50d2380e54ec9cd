-- The seat of a transaction in its member, the lock that it wants, and the flag that it may await.
use Rattle.std.specs.Prelude.{ℕ, zero, suc, ◌+◌, ◌-◌, ◌==◌, ◌&&◌, Bool, true, false, nat_le, if◌then◌else◌, List, [], ◌∷◌, Option, Some, None, slice_get}
use Rattle.std.specs.List.{list_any}
use Rattle.ds_base.specs.declared.names.TranId.{TranId}
use Rattle.ds_model.specs.declared.script.Op.{Op}
use Rattle.ds_model.specs.declared.script.Op.TheVariants as op
use Rattle.ds_model.specs.declared.script.Tran.{Tran}
use Rattle.lock_sights.specs.declared.locks.Lock.{Lock}
use Rattle.lock_sights.specs.Locks.{lacking_for, wanted}
use Rattle.lock_sights.specs.Rosters.{tran_at}
use Rattle.member_trans.specs.declared.fate.Owner.TheVariants as owner
use Rattle.member_marks.specs.Claims.{mode_held}
use Rattle.member_marks.specs.State.{MarksState, agents_of, id_of}

abbrev pub are_same : TranId → TranId → Bool
are_same a b = a.member == b.member && a.number == b.number

-- what the member with this number holds
abbrev pub marks_at : List MarksState → ℕ → Option MarksState
marks_at all member = if nat_le 1 member then slice_get all (member - 1) else None

abbrev pub is_seat : MarksState → TranId → ℕ → Bool
is_seat marks tran slot = are_same (id_of marks (owner.Slot slot)) tran

-- the first of these; another one, where there is none
abbrev pub or_seat : Option ℕ → Bool → ℕ → Option ℕ
or_seat (Some slot) is_here other = Some slot
or_seat None true other = Some other
or_seat None false other = None

-- the first of so many slots in which the transaction is
unfoldable pub seat_within : MarksState → TranId → ℕ → Option ℕ
seat_within marks tran zero = None
seat_within marks tran (suc n) = or_seat (seat_within marks tran n) (is_seat marks tran (n + 1)) (n + 1)

-- that of all slots
abbrev pub seat_in : MarksState → TranId → Option ℕ
seat_in marks tran = seat_within marks tran (agents_of marks)

-- ---- the lock that it wants

abbrev pub wanted_from : MarksState → List Op → Option ℕ → Option Lock
wanted_from marks ops None = None
wanted_from marks ops (Some slot) = wanted (mode_held marks (owner.Slot slot)) ops

abbrev pub wanted_there : TranId → Option MarksState → Option Tran → Option Lock
wanted_there tran (Some marks) (Some it) = wanted_from marks it.ops (seat_in marks tran)
wanted_there tran (Some marks) None = None
wanted_there tran None it = None

-- The first lock of its operations that it lacks. A transaction takes the locks of its operations in their order, and keeps them until its end.
abbrev pub wanted_by : List MarksState → List Tran → TranId → Option Lock
wanted_by all roster tran = wanted_there tran (marks_at all tran.member) (tran_at roster tran.number)

-- ---- the flag that it may await

abbrev pub is_await : ℕ → Op → Bool
is_await flag (op.Await f) = f == flag
is_await flag (op.Get table key) = false
is_await flag (op.Getu table key) = false
is_await flag (op.Put table key value) = false
is_await flag (op.Del table key) = false
is_await flag (op.Scan table low high) = false
is_await flag (op.Raise f) = false
is_await flag op.LoseCache = false
is_await flag op.Abort = false

abbrev pub is_raise : ℕ → Op → Bool
is_raise flag (op.Raise f) = f == flag
is_raise flag (op.Get table key) = false
is_raise flag (op.Getu table key) = false
is_raise flag (op.Put table key value) = false
is_raise flag (op.Del table key) = false
is_raise flag (op.Scan table low high) = false
is_raise flag (op.Await f) = false
is_raise flag op.LoseCache = false
is_raise flag op.Abort = false

abbrev pub has_op : (Op → Bool) → Option Tran → Bool
has_op test None = false
has_op test (Some it) = list_any test it.ops

-- by the script, the transaction awaits the flag, and the other one raises it
abbrev pub is_awaited : List Tran → TranId → ℕ → TranId → Bool
is_awaited roster tran flag raiser = has_op (is_await flag) (tran_at roster tran.number) && has_op (is_raise flag) (tran_at roster raiser.number)
