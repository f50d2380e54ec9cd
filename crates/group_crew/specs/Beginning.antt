-- What the begin of a phase does to the members.
use Rattle.std.specs.Prelude.{◌≡◌, ◌⊎◌, ℕ, zero, suc, ◌+◌, ◌-◌, ◌<◌, ◌≤◌, ◌&&◌, Bool, true, false, List, [], ◌∷◌, length, Option, Some, None, IfSome, IsSomeAnd, slice_get, slice_index_or, slice_set, if◌then◌else◌}
use Rattle.std.specs.List.{list_any}
use Rattle.ds_base.specs.declared.names.TranId.{TranId}
use Rattle.ds_model.specs.declared.script.Part.{Part}
use Rattle.ds_model.specs.declared.script.Phase.{Phase}
use Rattle.checkpoint_reader.specs.Ends.{end_of}
use Rattle.list_structure.specs.declared.standing.MemberStatus.{MemberStatus}
use Rattle.list_structure.specs.declared.standing.MemberStatus.TheVariants as statuses
use Rattle.list_structure.specs.Standings.{status_of}
use Rattle.list_structure.specs.States.{ListsState}
use Rattle.list_structure.specs.Bells.{CanRing, rung}
use Rattle.facility.specs.States.{PhaseBegun}
use Rattle.script_fates.specs.Fated.{StopsOnly, has_tran}
use Rattle.group_member.specs.declared.part.MemberPart.{MemberPart}
use Rattle.group_member.specs.Happening.{Held}
use Rattle.group_member.specs.Members.{Member, member_of}
use Rattle.group_member.specs.Restarting.{IsNew, KnowsTo}
use Rattle.script_phases.specs.Phases.{is_failed, is_left_out, last_raiser, raises_in, restarts_in}
use Rattle.group_crew.specs.Ends.{known_at}
use Rattle.group_crew.specs.States.{CrewState}

-- a member that has failed begins its restart with the phase
abbrev pub begins_restart : Phase → List MemberStatus → ℕ → Bool
begins_restart phase statuses member = is_failed (status_of statuses member) && restarts_in phase member

-- what a member is, holds and knows, but for its policy and its restart
pub record Kept : Type 0 where
  pub id : ℕ
  pub holds : Held
  pub known : List ℕ

abbrev pub kept_by : {P : Type 0} → MemberPart P → Kept
kept_by {P} part = record { id = part.id; holds = part.resources; known = part.known }

-- The member is restarting, and nothing of its restart is done. The bells ring.
pub record RestartBegins {P : Type 0} (old : MemberPart P) (lists : ListsState) (new : MemberPart P) (now : ListsState) : Type 0 where
  pub fresh : IsSomeAnd new.restart (λ r. IsNew old.id r.resources)
  pub lists_are : now ≡ record lists { statuses = slice_set lists.statuses (old.id - 1) statuses.Restarting; bells = rung lists.bells }

-- its restart knows up to where the member's log is whole records, as the member does
abbrev pub RestartKnows : {P : Type 0} → MemberPart P → MemberPart P → Type 0
RestartKnows {P} old new = IsSomeAnd new.restart (λ r. KnowsTo (end_of old.known old.id) r.resources)

-- The member is as it was; or its restart knows up to where the member's log is whole records, as these ends say.
abbrev pub StaysOrKnows : List ℕ → Member → Member → Type 0
StaysOrKnows known old new = (new ≡ old) ⊎ IsSomeAnd new.restart (λ r. KnowsTo (end_of known old.id) r.resources)

-- as those say that the member knows itself
abbrev pub PartStaysOrKnows : {P : Type 0} → MemberPart P → MemberPart P → Type 0
PartStaysOrKnows {P} old new = StaysOrKnows old.known (member_of old) (member_of new)

-- ---- the bells

-- they have rung so many times more
abbrev pub rung_times : ℕ → List ℕ → List ℕ
rung_times zero bells = bells
rung_times (suc n) bells = rung (rung_times n bells)

-- at most so often
pub record Rang (bells : List ℕ) (most : ℕ) (now : List ℕ) : Type 0 where
  pub rings : ℕ
  pub few : rings ≤ most
  pub are : now ≡ rung_times rings bells

-- after at most so many rings they can't ring again
pub record CannotRing (bells : List ℕ) (most : ℕ) : Type 0 where
  pub rings : ℕ
  pub few : rings ≤ most
  pub ends : ¬ CanRing (rung_times rings bells)

-- there is no such phase, or the bells can't ring for each restart of a member and once more
abbrev pub CannotBegin : Option Phase → List ℕ → ℕ → Type 0
CannotBegin None bells members = Unit {0}
CannotBegin (Some phase) bells members = CannotRing bells members

-- ---- the restarts of a phase

-- the lists once its restart has begun
abbrev pub restarting : ListsState → ℕ → ListsState
restarting lists member = record lists { statuses = slice_set lists.statuses (member - 1) statuses.Restarting; bells = rung lists.bells }

abbrev pub lists_begun : Phase → ListsState → ℕ → ListsState
lists_begun phase lists member = if begins_restart phase lists.statuses member then restarting lists member else lists

-- the restart of the member begins, with nothing of it done; or the member stays as it was
abbrev pub Restarts : Bool → Member → Member → Type 0
Restarts true old new = IsSomeAnd new.restart (λ r. IsNew old.id r.resources) × (new ≡ record old { restart = new.restart })
Restarts false old new = new ≡ old

-- so it is for each of them, in their order
abbrev pub AllRestart : Phase → ListsState → List Member → List Member → ListsState → Type 0
AllRestart phase lists [] [] now = now ≡ lists
AllRestart phase lists [] (new ∷ news) now = ⊥
AllRestart phase lists (old ∷ olds) [] now = ⊥
AllRestart phase lists (old ∷ olds) (new ∷ news) now = Restarts (begins_restart phase lists.statuses old.id) old new × AllRestart phase (lists_begun phase lists old.id) olds news now

-- ---- the begin of a phase

-- a member that is left out has a transaction of this number in the phase
abbrev pub is_left_out_in : Phase → List MemberStatus → ℕ → Bool
is_left_out_in phase statuses n = list_any (λ (p : Part). is_left_out phase statuses p.member && has_tran p.trans n) phase.parts

-- by flag less one: who raises it last in the phase
pub record AreRaisers (phase : Phase) (statuses : List MemberStatus) (raisers : List (Option TranId)) : Type 0 where
  pub many : length raisers ≡ 64
  pub each : (k : ℕ) → k < 64 → slice_index_or raisers k None ≡ last_raiser (k + 1) (raises_in phase statuses)

-- A phase has begun: so have the restarts of members that it brings back, each of which knows up to where the log is whole records as its member
-- does. Each flag has who is to raise it, no member is done, and all bells have rung. Of the transactions those alone are stopped that members
-- have which are left out.
pub record PhaseBegins (phase : Phase) (old new : CrewState) : Type 0 where
  pub lists : ListsState
  pub restarts : AllRestart phase old.facility.lists old.members new.members lists
  pub knows : (at : ℕ) → IfSome (slice_get old.members at) (λ (m : Member). IfSome (slice_get new.members at) (StaysOrKnows (known_at old.known at) m))
  pub raisers : List (Option TranId)
  pub raised : AreRaisers phase old.facility.lists.statuses raisers
  pub facility : PhaseBegun (record old.facility { lists = lists }) raisers new.facility
  pub stopped : StopsOnly (is_left_out_in phase old.facility.lists.statuses) old.fates new.fates
  pub rest : new ≡ record old { facility = new.facility; members = new.members; begun = old.begun + 1; groupfails = 0; fates = new.fates }

-- it is the next one of the script
abbrev pub BeginsNext : CrewState → CrewState → Type 0
BeginsNext old new = IsSomeAnd (slice_get old.script.phases old.begun) (λ phase. PhaseBegins phase old new)
