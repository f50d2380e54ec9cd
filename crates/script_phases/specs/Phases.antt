-- What a phase says of its members.
use Rattle.std.specs.Prelude.{◌≡◌, ℕ, ◌+◌, ◌<◌, ◌==◌, ◌&&◌, Bool, true, false, not, List, [], ◌∷◌, Option, Some, None, slice_index_or, if◌then◌else◌}
use Rattle.std.specs.List.{find, flat_map, list_any}
use Rattle.ds_base.specs.declared.names.TranId.{TranId}
use Rattle.ds_model.specs.declared.script.FailAt.{FailAt}
use Rattle.ds_model.specs.declared.script.Op.{Op}
use Rattle.ds_model.specs.declared.script.Op.TheVariants as op
use Rattle.ds_model.specs.declared.script.Tran.{Tran}
use Rattle.ds_model.specs.declared.script.Part.{Part}
use Rattle.ds_model.specs.declared.script.Phase.{Phase}
use Rattle.list_structure.specs.declared.standing.MemberStatus.{MemberStatus}
use Rattle.list_structure.specs.declared.standing.MemberStatus.TheVariants as statuses
use Rattle.list_structure.specs.Standings.{status_of}

abbrev pub is_failed : MemberStatus → Bool
is_failed statuses.Down = false
is_failed statuses.Up = false
is_failed statuses.Failed = true
is_failed statuses.Restarting = false

-- the member has a part of the phase in which it restarts
abbrev pub restarts_in : Phase → ℕ → Bool
restarts_in phase member = list_any (λ (p : Part). (p.member == member) && p.restart) phase.parts

-- the member has failed, and doesn't restart in the phase
abbrev pub is_left_out : Phase → List MemberStatus → ℕ → Bool
is_left_out phase statuses member = is_failed (status_of statuses member) && not (restarts_in phase member)

-- ---- a member's part

abbrev pub part_in : Phase → ℕ → Option Part
part_in phase member = find (λ (p : Part). p.member == member) phase.parts

abbrev pub trans_in : Option Part → List Tran
trans_in None = []
trans_in (Some p) = p.trans

abbrev pub fail_in : Option Part → Option FailAt
fail_in None = None
fail_in (Some p) = p.fail

-- ---- who is to raise each flag

-- a raise: the flag, and the transaction that raises it
abbrev pub raise_in : TranId → Op → List (ℕ × TranId)
raise_in id (op.Raise flag) = (flag, id) ∷ []
raise_in id _ = []

abbrev pub raises_of_tran : ℕ → Tran → List (ℕ × TranId)
raises_of_tran member t = flat_map (raise_in (record { member = member; number = t.number })) t.ops

abbrev pub raises_of_part : Part → List (ℕ × TranId)
raises_of_part p = flat_map (raises_of_tran p.member) p.trans

-- a member that is left out raises none
abbrev pub raises_counted : Phase → List MemberStatus → Part → List (ℕ × TranId)
raises_counted phase statuses p = if is_left_out phase statuses p.member then [] else raises_of_part p

-- in the order of the script
abbrev pub raises_in : Phase → List MemberStatus → List (ℕ × TranId)
raises_in phase statuses = flat_map (raises_counted phase statuses) phase.parts

-- the later one, if there is one
abbrev pub later_of : Option TranId → Option TranId → Option TranId
later_of earlier None = earlier
later_of earlier (Some id) = Some id

-- who raises the flag last
abbrev pub last_raiser : ℕ → List (ℕ × TranId) → Option TranId
last_raiser flag [] = None
last_raiser flag (r ∷ rs) = later_of (if r.0 == flag then Some r.1 else None) (last_raiser flag rs)

-- by flag less one: who raises it last in these, or who was to raise it before
abbrev pub Noted : List (ℕ × TranId) → List (Option TranId) → List (Option TranId) → Type 0
Noted raises old new = (k : ℕ) → k < 64 → slice_index_or new k None ≡ later_of (slice_index_or old k None) (last_raiser (k + 1) raises)
