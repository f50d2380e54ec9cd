-- The replies to `obtain` and `grant`.
use Rattle.std.specs.Prelude.{◌≡◌, ℕ, Bool, true, false, if◌then◌else◌}
use Rattle.ds_model.specs.declared.lock.Name.{Name}
use Rattle.ds_model.specs.declared.lock.Name.TheVariants as name
use Rattle.ds_model.specs.declared.fate.Refusal.TheVariants as refusal
use Rattle.lock_names.specs.declared.mode.Mode.{Mode}
use Rattle.facility.specs.declared.command.Reply.{Reply}
use Rattle.facility.specs.declared.command.Reply.TheVariants as reply
use Rattle.member_trans.specs.declared.fate.Owner.{Owner}
use Rattle.member_trans.specs.declared.fate.Owner.TheVariants as owner
use Rattle.member_needs.specs.Given.{Trial}
use Rattle.member_needs.specs.Given.trial_variants as trial
use Rattle.member_needs.specs.Given.{MarksState}
use Rattle.member_needs.specs.Given.{is_for_agents, may_enter_page, PageEntered, after_enter, enter_told, offered}
use Rattle.member_effects.specs.declared.told.Told.{Told}
use Rattle.member_effects.specs.declared.told.Told.TheVariants as told

-- the page is claimed in X
abbrev pub EntersPage : MarksState → Name → MarksState → Type 0
EntersPage s (name.Page p) t = PageEntered (may_enter_page s p) s p t
EntersPage s (name.Space table) t = t ≡ s
EntersPage s (name.Row table key) t = t ≡ s
EntersPage s (name.Set n) t = t ≡ s

-- a transaction of a slot claims the name
abbrev pub agent_entered : MarksState → Owner → Name → Mode → ℕ → MarksState
agent_entered s (owner.Slot slot) n m place = after_enter s slot n m place
agent_entered s (owner.Rollback id) n m place = s

-- the owner itself claims the name where that is one for agents, and else the member does
abbrev pub Enters : Bool → MarksState → Owner → Name → Mode → ℕ → MarksState → Type 0
Enters true s o n m place t = t ≡ agent_entered s o n m place
Enters false s o n m place t = EntersPage s n t

abbrev pub told_of : Trial → Told
told_of trial.Have = told.Granted
told_of (trial.ToObtain m) = told.Stepped
told_of (trial.Conflict by) = told.Conflict by
told_of (trial.Postponed by) = told.Refused
told_of trial.NoMemory = told.Refused
told_of trial.NotForward = told.Stepped

abbrev pub agent_told : MarksState → Owner → Name → Mode → Told
agent_told s (owner.Slot slot) n m = told_of (enter_told s slot n m)
agent_told s (owner.Rollback id) n m = told.Stepped

abbrev pub granted_told : MarksState → Owner → Name → Mode → Told
granted_told s o n m = if is_for_agents n then agent_told s o n m else told.Granted

-- the refusal is the owner's, also where the member claims the name for it
abbrev pub refused_after : MarksState → Owner → Name → Reply → ℕ → MarksState
refused_after s o n (reply.Retained by) place = offered s o (refusal.Retained n by) place
refused_after s o n (reply.RecordsFull limit) place = offered s o (refusal.RecordsFull limit) place
refused_after s o n _ place = s

-- the marks after the reply
abbrev pub Claims : MarksState → Owner → Name → Mode → Reply → ℕ → MarksState → Type 0
Claims s o n m (reply.Granted version) place t = Enters (is_for_agents n) s o n m place t
Claims s o n m other place t = t ≡ refused_after s o n other place

abbrev pub claimed_told : MarksState → Owner → Name → Mode → Reply → Told
claimed_told s o n m (reply.Granted version) = granted_told s o n m
claimed_told s o n m (reply.Retained by) = told.Refused
claimed_told s o n m (reply.RecordsFull limit) = told.Refused
claimed_told s o n m (reply.Contention share exclusive version) = told.Contention share exclusive
claimed_told s o n m (reply.Moved version) = told.Moved
claimed_told s o n m _ = told.Stepped
