-- Reading a script line by line: where a line may stand, and what it adds.
use Rattle.std.specs.Prelude.{◌≡◌, ℕ, ◌+◌, ◌==◌, Bool, true, false, not, ◌&&◌, if◌then◌else◌, nat_lt, nat_le, List, [], ◌∷◌, ◌++◌, length, Option, Some, None, Result, Ok, Err, is_none}
use Rattle.ds_model.specs.declared.script.Op.{Op}
use Rattle.ds_model.specs.declared.script.Op.TheVariants as op
use Rattle.ds_model.specs.declared.script.FailAt.{FailAt}
use Rattle.ds_model.specs.declared.script.Tran.{Tran}
use Rattle.ds_model.specs.declared.script.Part.{Part}
use Rattle.ds_model.specs.declared.script.Phase.{Phase}
use Rattle.ds_model.specs.declared.script.FaultKind.{FaultKind}
use Rattle.ds_model.specs.declared.script.FaultKind.TheVariants as fault
use Rattle.script_line.specs.declared.line.Keyword.{Keyword}
use Rattle.script_line.specs.declared.line.Keyword.TheVariants as keyword
use Rattle.script_line.specs.declared.line.Line.{Line}
use Rattle.script_line.specs.declared.line.Line.TheVariants as line
use Rattle.script_line.specs.Words.{mapped}
use Rattle.script_text.specs.declared.draft.Place.{Place}
use Rattle.script_text.specs.declared.draft.Place.TheVariants as place
use Rattle.script_text.specs.declared.draft.Draft.{Draft}
use Rattle.script_text.specs.SoFar.{has_number, has_name, phase_with, names_so_far, members_failed, members_playing, flags_raised_by_others}

-- ---- where a line may stand, by its first word

-- no fail line and no transaction stands in the part
abbrev pub may_fail : Part → Bool
may_fail p = is_none p.fail && (length p.trans == 0)

-- between the transactions of the part
abbrev pub may_stand_in : Part → Keyword → Bool
may_stand_in part keyword.GroupFail = true
may_stand_in part keyword.Phase = true
may_stand_in part keyword.Member = true
may_stand_in part keyword.Restart = not part.restart && may_fail part
may_stand_in part keyword.Fail = may_fail part
may_stand_in part keyword.Tran = true
may_stand_in part keyword.Operation = false
may_stand_in part keyword.End = false

abbrev pub may_stand : Place → Keyword → Bool
may_stand place.Outside keyword.GroupFail = true
may_stand place.Outside keyword.Phase = true
may_stand place.Outside _ = false
may_stand (place.Phase parts) keyword.GroupFail = true
may_stand (place.Phase parts) keyword.Phase = true
may_stand (place.Phase parts) keyword.Member = true
may_stand (place.Phase parts) _ = false
may_stand (place.Part parts part) k = may_stand_in part k
may_stand (place.Tran parts part name wait ops) keyword.Operation = true
may_stand (place.Tran parts part name wait ops) keyword.End = true
may_stand (place.Tran parts part name wait ops) _ = false

-- how many operations the open transaction has
abbrev pub open_ops : Place → ℕ
open_ops place.Outside = 0
open_ops (place.Phase parts) = 0
open_ops (place.Part parts part) = 0
open_ops (place.Tran parts part name wait ops) = length ops

abbrev pub begun_at : ℕ → Place → ℕ
begun_at ended place.Outside = ended
begun_at ended (place.Phase parts) = ended + 1
begun_at ended (place.Part parts part) = ended + 1
begun_at ended (place.Tran parts part name wait ops) = ended + 1

-- how many phases have begun
abbrev pub phases_begun : Draft → ℕ
phases_begun d = begun_at (length d.phases) d.place

-- the line begins one phase, transaction or operation more than a limit allows
abbrev pub is_one_too_many : Draft → Keyword → Bool
is_one_too_many d keyword.Phase = nat_le 1024 (phases_begun d)
is_one_too_many d keyword.Tran = nat_le 65536 d.count
is_one_too_many d keyword.Operation = nat_le 64 (open_ops d.place)
is_one_too_many d _ = false

-- what is wrong with the place of a line
abbrev pub place_fault : Draft → Option Keyword → Option FaultKind
place_fault d None = Some fault.Word
place_fault d (Some k) = if may_stand d.place k then (if is_one_too_many d k then Some fault.TooLong else None) else Some fault.Word

-- ---- what a line adds where it may stand, or its fault among the lines before it

abbrev pub draft_at : List Phase → ℕ → ℕ → Place → Draft
draft_at phases groupfails count p = record { phases = phases; groupfails = groupfails; count = count; place = p }

abbrev pub start : Draft
start = draft_at [] 0 0 place.Outside

abbrev pub moved : Draft → Place → Draft
moved d p = draft_at d.phases d.groupfails d.count p

abbrev pub with_phase : Draft → List Part → Draft
with_phase d parts = draft_at (d.phases ++ phase_with d.groupfails parts ∷ []) 0 d.count place.Outside

abbrev pub closed_at : Draft → Place → Result Draft FaultKind
closed_at d place.Outside = Ok (moved d place.Outside)
closed_at d (place.Phase parts) = Ok (with_phase d parts)
closed_at d (place.Part parts part) = Ok (with_phase d (parts ++ part ∷ []))
closed_at d (place.Tran parts part name wait ops) = Err fault.Word

-- the phase that is open is ended
abbrev pub closed : Draft → Result Draft FaultKind
closed d = closed_at d d.place

abbrev pub failed_again : Draft → Draft
failed_again d = draft_at d.phases (d.groupfails + 1) d.count d.place

abbrev pub step_groupfail : Draft → Result Draft FaultKind
step_groupfail d = mapped failed_again (closed d)

abbrev pub in_phase : Draft → Draft
in_phase d = moved d (place.Phase [])

abbrev pub step_phase : Draft → Result Draft FaultKind
step_phase d = mapped in_phase (closed d)

abbrev pub part_of : ℕ → Part
part_of member = record { member = member; restart = false; fail = None; trans = [] }

abbrev pub part_begun : Draft → Place → ℕ → Result Draft FaultKind
part_begun d place.Outside member = Err fault.Word
part_begun d (place.Phase parts) member = Ok (moved d (place.Part parts (part_of member)))
part_begun d (place.Part parts part) member = Ok (moved d (place.Part (parts ++ part ∷ []) (part_of member)))
part_begun d (place.Tran parts part name wait ops) member = Err fault.Word

abbrev pub step_member : Draft → ℕ → Result Draft FaultKind
step_member d member = if has_number (members_playing d) member then Err fault.Member else part_begun d d.place member

abbrev pub restarted : Part → Part
restarted p = record { member = p.member; restart = true; fail = p.fail; trans = p.trans }

-- the member of the open part, between its transactions
abbrev pub member_at : Place → Option ℕ
member_at place.Outside = None
member_at (place.Phase parts) = None
member_at (place.Part parts part) = Some part.member
member_at (place.Tran parts part name wait ops) = None

abbrev pub restarted_at : Draft → Place → Result Draft FaultKind
restarted_at d place.Outside = Err fault.Word
restarted_at d (place.Phase parts) = Err fault.Word
restarted_at d (place.Part parts part) = Ok (moved d (place.Part parts (restarted part)))
restarted_at d (place.Tran parts part name wait ops) = Err fault.Word

abbrev pub restart_of : Draft → Option ℕ → Result Draft FaultKind
restart_of d None = Err fault.Word
restart_of d (Some member) = if has_number (members_failed d) member then restarted_at d d.place else Err fault.Restart

abbrev pub step_restart : Draft → Result Draft FaultKind
step_restart d = restart_of d (member_at d.place)

abbrev pub failing : FailAt → Part → Part
failing at p = record { member = p.member; restart = p.restart; fail = Some at; trans = p.trans }

abbrev pub fail_at : Draft → Place → FailAt → Result Draft FaultKind
fail_at d place.Outside at = Err fault.Word
fail_at d (place.Phase parts) at = Err fault.Word
fail_at d (place.Part parts part) at = Ok (moved d (place.Part parts (failing at part)))
fail_at d (place.Tran parts part name wait ops) at = Err fault.Word

abbrev pub step_fail : Draft → FailAt → Result Draft FaultKind
step_fail d at = fail_at d d.place at

abbrev pub tran_begun : Draft → Place → List ℕ → Bool → Result Draft FaultKind
tran_begun d place.Outside name wait = Err fault.Word
tran_begun d (place.Phase parts) name wait = Err fault.Word
tran_begun d (place.Part parts part) name wait = Ok (draft_at d.phases d.groupfails (d.count + 1) (place.Tran parts part name wait []))
tran_begun d (place.Tran parts part n w ops) name wait = Err fault.Word

abbrev pub step_tran : Draft → List ℕ → Bool → Result Draft FaultKind
step_tran d name wait = if has_name (names_so_far d) name then Err fault.Name else tran_begun d d.place name wait

-- the open transaction is the first of its part
abbrev pub is_first : Place → Bool
is_first place.Outside = false
is_first (place.Phase parts) = false
is_first (place.Part parts part) = false
is_first (place.Tran parts part name wait ops) = length part.trans == 0

-- flags are used in the first transaction of a part alone, and raised by one transaction of a phase
abbrev pub may_use_flags : Draft → Op → Bool
may_use_flags d (op.Get table key) = true
may_use_flags d (op.Getu table key) = true
may_use_flags d (op.Put table key value) = true
may_use_flags d (op.Del table key) = true
may_use_flags d (op.Scan table low high) = true
may_use_flags d (op.Raise flag) = is_first d.place && not (has_number (flags_raised_by_others d) flag)
may_use_flags d (op.Await flag) = is_first d.place
may_use_flags d op.LoseCache = true
may_use_flags d op.Abort = true

abbrev pub op_taken : Draft → Place → Op → Result Draft FaultKind
op_taken d place.Outside o = Err fault.Word
op_taken d (place.Phase parts) o = Err fault.Word
op_taken d (place.Part parts part) o = Err fault.Word
op_taken d (place.Tran parts part name wait ops) o = Ok (moved d (place.Tran parts part name wait (ops ++ o ∷ [])))

abbrev pub step_op : Draft → Op → Result Draft FaultKind
step_op d o = if may_use_flags d o then op_taken d d.place o else Err fault.Flag

abbrev pub tran_of : List ℕ → ℕ → Bool → List Op → Tran
tran_of name number wait ops = record { name = name; number = number; wait = wait; ops = ops }

abbrev pub with_tran : Part → Tran → Part
with_tran p t = record { member = p.member; restart = p.restart; fail = p.fail; trans = p.trans ++ t ∷ [] }

abbrev pub tran_ended : Draft → Place → Result Draft FaultKind
tran_ended d place.Outside = Err fault.Word
tran_ended d (place.Phase parts) = Err fault.Word
tran_ended d (place.Part parts part) = Err fault.Word
tran_ended d (place.Tran parts part name wait ops) = Ok (moved d (place.Part parts (with_tran part (tran_of name d.count wait ops))))

abbrev pub step_end : Draft → Result Draft FaultKind
step_end d = tran_ended d d.place

abbrev pub step_line : Draft → Line → Result Draft FaultKind
step_line d line.GroupFail = step_groupfail d
step_line d line.Phase = step_phase d
step_line d (line.Member member) = step_member d member
step_line d line.Restart = step_restart d
step_line d (line.Fail at) = step_fail d at
step_line d (line.Tran name wait) = step_tran d name wait
step_line d (line.Operation o) = step_op d o
step_line d line.End = step_end d
