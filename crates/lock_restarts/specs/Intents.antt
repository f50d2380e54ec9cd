-- The intents of a restart that change locks: each is lawful, its command was given, and the reply is settled.
use Rattle.std.specs.Prelude.{◌≡◌, ◌||◌, ◌==◌, ℕ, true, Some, None, is_none}
use Rattle.ds_base.specs.declared.names.PageId.{PageId}
use Rattle.ds_base.specs.Ids.{IsMember}
use Rattle.ds_model.specs.declared.lock.Name.{Name}
use Rattle.ds_model.specs.declared.lock.Name.TheVariants as name
use Rattle.lock_names.specs.declared.mode.Mode.TheVariants.{X}
use Rattle.list_structure.specs.declared.standing.MemberStatus.TheVariants.{Up}
use Rattle.facility.specs.declared.command.Reply.{Reply}
use Rattle.facility.specs.States.{Held}
use Rattle.facility.specs.LockCommands.{ObtainsLock, GrantsLock, ReleasesLock, PurgesLock}
use Rattle.facility.specs.ListCommands.{AsksMember, SetsStatus}
use Rattle.restart_records.specs.Trans.{page_undone}
use Rattle.restart_marks.specs.Locks.{claim_after, released_after}
use Rattle.restart_marks.specs.Moves.{is_claimed}
use Rattle.restart_marks.specs.State.{RestartState}
use Rattle.lock_protocol.specs.Machine.{World, no_interest}
use Rattle.lock_world.specs.Numbers.{number}
use Rattle.lock_world.specs.Tied.{Claims, Tied}
use Rattle.lock_restarts.specs.Stands.{OwnClaims, Knows, Leads, IsRestarting, Goes, none_gone}

-- ---- the lock of the page of the newest change that stands; the lock of no other page is claimed

abbrev pub ObtainGoes : Type 0
ObtainGoes = (w : World) (f g : Held) (held left : Claims) (own : OwnClaims) (s t : RestartState) (id : ℕ) (page : PageId) (answer : Reply)
    → Tied w f.locks f.lists held → IsRestarting f own s → Knows held own s → page_undone s.trans id ≡ Some page → (is_none s.claim || is_claimed s page) ≡ true
    → ObtainsLock f s.member (name.Page page) X answer g → t ≡ claim_after s id answer → Leads held left own s t → Goes w f g left s.member none_gone

abbrev pub GrantGoes : Type 0
GrantGoes = (w : World) (f g : Held) (held left : Claims) (own : OwnClaims) (s t : RestartState) (id : ℕ) (page : PageId) (answer : Reply)
    → Tied w f.locks f.lists held → IsRestarting f own s → Knows held own s → page_undone s.trans id ≡ Some page → (is_none s.claim || is_claimed s page) ≡ true
    → GrantsLock f s.member 0 (name.Page page) X answer g → t ≡ claim_after s id answer → Leads held left own s t → Goes w f g left s.member none_gone

abbrev pub AskGoes : Type 0
AskGoes = (w : World) (f g : Held) (held left : Claims) (own : OwnClaims) (s t : RestartState) (to : ℕ) (page : PageId) (answer : Reply)
    → Tied w f.locks f.lists held → IsRestarting f own s → Knows held own s → IsMember to
    → AsksMember f s.member 0 to (name.Page page) X answer g → t.claim ≡ s.claim → Leads held left own s t → Goes w f g left s.member none_gone

-- ---- what is given up

-- the page whose lock it has, and no interest is kept
abbrev pub ReleaseGoes : Type 0
ReleaseGoes = (w : World) (f g : Held) (held left : Claims) (own : OwnClaims) (s t : RestartState) (page : PageId) (answer : Reply)
    → Tied w f.locks f.lists held → IsRestarting f own s → Knows held own s → s.claim ≡ Some page
    → ReleasesLock f s.member (name.Page page) no_interest answer g → t ≡ released_after s answer → Leads held left own s t → Goes w f g left s.member none_gone

-- no owner of the member claims the name
abbrev pub PurgeGoes : Type 0
PurgeGoes = (w : World) (f g : Held) (held left : Claims) (own : OwnClaims) (s t : RestartState) (n : Name) (answer : Reply)
    → Tied w f.locks f.lists held → IsRestarting f own s → Knows held own s → ((o : ℕ) → held s.member o (number n) ≡ None)
    → PurgesLock f s.member n answer g → t.claim ≡ s.claim → Leads held left own s t → Goes w f g left s.member (λ c. c == number n)

-- what is left of the claims of its failure, but for those of its rollbacks, is given up
abbrev pub UpGoes : Type 0
UpGoes = (w : World) (f g : Held) (held left : Claims) (own : OwnClaims) (s t : RestartState) (answer : Reply)
    → Tied w f.locks f.lists held → IsRestarting f own s → Knows held own s
    → SetsStatus f s.member Up answer g → t.claim ≡ s.claim → Leads held left own s t → Goes w f g left s.member (λ c. true)
