-- The intents that change locks, of a member that is up: each is lawful, its command was given, and the reply is settled.
use Rattle.std.specs.Prelude.{◌≡◌, ℕ, ◌≤◌, true, false, Some}
use Rattle.ds_base.specs.declared.names.PageId.{PageId}
use Rattle.ds_base.specs.Ids.{IsMember}
use Rattle.ds_model.specs.declared.lock.Name.{Name}
use Rattle.lock_names.specs.declared.mode.Mode.{Mode}
use Rattle.lock_names.specs.declared.mode.Interest.{Interest}
use Rattle.list_structure.specs.declared.query.Asker.{Asker}
use Rattle.list_structure.specs.Askers.{IsAsker}
use Rattle.facility.specs.declared.command.Reply.{Reply}
use Rattle.facility.specs.States.{Held}
use Rattle.facility.specs.LockCommands.{ObtainsLock, GrantsLock, ReleasesLock, PurgesLock}
use Rattle.facility.specs.ListCommands.{AsksMember, AnswersQuery, EndsTran}
use Rattle.ds_base.specs.declared.names.TranId.{TranId}
use Rattle.member_intents.specs.Cells.{cell_slot}
use Rattle.member_trans.specs.declared.fate.Owner.{Owner}
use Rattle.member_trans.specs.declared.fate.Owner.TheVariants as owner
use Rattle.member_marks.specs.State.{MarksState}
use Rattle.member_marks.specs.Claims.{is_agent, is_claimed, answer_to, releasing, releasing_page, after_end_of}
use Rattle.member_effects.specs.Claims.{Claims as SettlesClaims}
use Rattle.member_effects.specs.Closing.{released_after, page_released_after}
use Rattle.needs_law.specs.Lawful.{MayClaim}
use Rattle.lock_protocol.specs.Machine.{World}
use Rattle.lock_world.specs.Tied.{Claims, Tied}
use Rattle.lock_intents.specs.Stands.{Knows, Leads, IsUp, Goes}

-- a slot from 1 on that the member has, or a rollback
abbrev pub IsAgent : MarksState → Owner → Type 0
IsAgent s (owner.Slot slot) = is_agent s slot ≡ true
IsAgent s (owner.Rollback id) = Unit {0}

-- ---- a lock is asked for

abbrev pub ObtainGoes : Type 0
ObtainGoes = (w : World) (f g : Held) (held left : Claims) (s t : MarksState) (o : Owner) (n : Name) (m : Mode) (answer : Reply) (place : ℕ)
    → Tied w f.locks f.lists held → IsUp f s → Knows held s → IsAgent s o → MayClaim s o n m
    → ObtainsLock f s.member n m answer g → SettlesClaims s o n m answer place t → Leads held left s t → Goes w f g left s t

abbrev pub GrantGoes : Type 0
GrantGoes = (w : World) (f g : Held) (held left : Claims) (s t : MarksState) (o : Owner) (n : Name) (m : Mode) (answer : Reply) (place : ℕ)
    → Tied w f.locks f.lists held → IsUp f s → Knows held s → IsAgent s o → MayClaim s o n m → cell_slot o n ≤ 16
    → GrantsLock f s.member (cell_slot o n) n m answer g → SettlesClaims s o n m answer place t → Leads held left s t → Goes w f g left s t

abbrev pub AskGoes : Type 0
AskGoes = (w : World) (f g : Held) (held left : Claims) (s : MarksState) (slot to : ℕ) (n : Name) (m : Mode) (answer : Reply)
    → Tied w f.locks f.lists held → IsUp f s → Knows held s → slot ≤ 16 → IsMember to
    → AsksMember f s.member slot to n m answer g → Leads held left s s → Goes w f g left s s

-- by what its lock manager says
abbrev pub AnswerGoes : Type 0
AnswerGoes = (w : World) (f g : Held) (held left : Claims) (s : MarksState) (asker : Asker) (n : Name) (m : Mode) (event : ℕ) (answer : Reply)
    → Tied w f.locks f.lists held → IsUp f s → Knows held s → IsAsker asker
    → AnswersQuery f s.member asker n m (answer_to s n m) event answer g → Leads held left s s → Goes w f g left s s

-- ---- a lock is given up

abbrev pub ReleaseGoes : Type 0
ReleaseGoes = (w : World) (f g : Held) (held left : Claims) (s t : MarksState) (o : Owner) (n : Name) (keeps : Interest) (answer : Reply)
    → Tied w f.locks f.lists held → IsUp f s → Knows held s → IsAgent s o → releasing s o ≡ Some (n, keeps)
    → ReleasesLock f s.member n keeps answer g → t ≡ released_after s o answer → Leads held left s t → Goes w f g left s t

abbrev pub PageGoes : Type 0
PageGoes = (w : World) (f g : Held) (held left : Claims) (s t : MarksState) (p : PageId) (n : Name) (keeps : Interest) (answer : Reply)
    → Tied w f.locks f.lists held → IsUp f s → Knows held s → releasing_page s p ≡ Some (n, keeps)
    → ReleasesLock f s.member n keeps answer g → t ≡ page_released_after s p answer → Leads held left s t → Goes w f g left s t

-- the member claims the name no more
abbrev pub PurgeGoes : Type 0
PurgeGoes = (w : World) (f g : Held) (held left : Claims) (s : MarksState) (n : Name) (answer : Reply)
    → Tied w f.locks f.lists held → IsUp f s → Knows held s → is_claimed s n ≡ false
    → PurgesLock f s.member n answer g → Leads held left s s → Goes w f g left s s

abbrev pub EndGoes : Type 0
EndGoes = (w : World) (f g : Held) (held left : Claims) (s t : MarksState) (o : Owner) (tran : TranId) (answer : Reply)
    → Tied w f.locks f.lists held → IsUp f s → Knows held s → t ≡ after_end_of s o
    → EndsTran f tran answer g → Leads held left s t → Goes w f g left s t
