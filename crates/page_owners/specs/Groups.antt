-- A group beside its good world of pages and its sound world of locks.
use Rattle.std.specs.Prelude.{◌≡◌, ℕ, ◌≤◌, Bool, true, false, List, None}
use Rattle.ds_base.specs.Ids.{IsMember}
use Rattle.ds_base.specs.declared.names.Sizes.{Sizes}
use Rattle.facility.specs.States.{IsMade, MemberFailed}
use Rattle.lock_protocol.specs.Machine.{World as LockWorld, start as lock_start}
use Rattle.lock_protocol.specs.Moves.{Move as LockMove}
use Rattle.lock_protocol.specs.Sound.{Sound}
use Rattle.lock_world.specs.Failing.{Forgets, KnowsNone}
use Rattle.lock_world.specs.Tied.{Claims, Tied, Moved}
use Rattle.lock_world.specs.Views.{entry_in}
use Rattle.lock_intents.specs.Stands.{Leads}
use Rattle.member_intents.specs.declared.intent.Intent.{Intent}
use Rattle.member_intents.specs.declared.outcome.Answered.{Answered}
use Rattle.member_intents.specs.declared.outcome.Sent.{Sent}
use Rattle.member_resources.specs.Held.{Held, IsNew, begun}
use Rattle.member_resources.specs.Events as event
use Rattle.member_resources.specs.Events.{Ends, Happens}
use Rattle.page_protocol.specs.Page.{put}
use Rattle.page_protocol.specs.Moves.{World, Move, Run, start}
use Rattle.page_world.specs.Numbers.{set_of}
use Rattle.page_world.specs.Holdings.{Holdings}
use Rattle.page_groups.specs.Groups.{GroupStands, Shows, Supplied, among, made}
use Rattle.page_owners.specs.Owners.{IsGiven, LocksStand, OwnersClaim}

-- by member: whether it is up, and what it holds
pub record BothStand (w : World) (l : LockWorld) (u : event.World) (g : Holdings) (content : ℕ → ℕ → List ℕ) (forced : ℕ → ℕ) (held : Claims) (up : ℕ → Bool) (hs : ℕ → Held) : Type 0 where
  pub pages : GroupStands w u g content forced up hs
  pub sound : Sound (entry_in u.facility.locks) l
  pub tied : Tied l u.facility.locks u.facility.lists held
  pub owners : OwnersClaim l g
  pub each : (m : ℕ) → up m ≡ true → LocksStand u.facility held (hs m).marks

-- moves of both worlds lead to worlds beside what is left
pub record BothLead (w : World) (l : LockWorld) (u v : event.World) (left : Claims) (up : ℕ → Bool) (hs : ℕ → Held) : Type 0 where
  pub moves : List Move
  pub world : World
  pub run : Run set_of w moves world
  pub lock_moves : List LockMove
  pub locked : Moved l lock_moves u.facility.locks v.facility.locks v.facility.lists left
  pub holdings : Holdings
  pub versions : ℕ → ℕ → List ℕ
  pub force : ℕ → ℕ
  pub stands : BothStand world locked.world v holdings versions force left up hs

-- all that an event takes from elsewhere, but for what only its plan and the disk say
abbrev pub LocksSupply : Type 0
LocksSupply = (w : World) (l : LockWorld) (u v : event.World) (g : Holdings) (content : ℕ → ℕ → List ℕ) (forced : ℕ → ℕ) (held : Claims) (up : ℕ → Bool) (hs : ℕ → Held) (m : ℕ) (k : Held) (i : Intent) (place : ℕ) (sent : Sent) (a : Answered)
    → BothStand w l u g content forced held up hs → up m ≡ true → (happens : Happens u (hs m) i place sent a v k) → IsGiven happens.ready i happens.plan place a → Supplied g (hs m) happens.ready i happens.plan place a

-- any event of any member that is up, whatever its policy
abbrev pub EventsGo : Type 0
EventsGo = (w : World) (l : LockWorld) (u v : event.World) (g : Holdings) (content : ℕ → ℕ → List ℕ) (forced : ℕ → ℕ) (held left : Claims) (up : ℕ → Bool) (hs : ℕ → Held) (m : ℕ) (k : Held) (i : Intent) (place : ℕ) (sent : Sent) (a : Answered)
    → BothStand w l u g content forced held up hs → up m ≡ true → Leads held left (hs m).marks k.marks → (happens : Happens u (hs m) i place sent a v k) → IsGiven happens.ready i happens.plan place a
    → BothLead w l u v left up (put hs m k)

-- it is told of its restart or its rebuild
abbrev pub ToldGo : Type 0
ToldGo = (w : World) (l : LockWorld) (u : event.World) (g : Holdings) (content : ℕ → ℕ → List ℕ) (forced : ℕ → ℕ) (held left : Claims) (up : ℕ → Bool) (hs : ℕ → Held) (m : ℕ) (k : Held) (place : ℕ)
    → BothStand w l u g content forced held up hs → up m ≡ true → Leads held left (hs m).marks k.marks → Ends (begun (hs m) place) k → BothLead w l u u left up (put hs m k)

-- a member fails, whatever its standing
abbrev pub FailuresGo : Type 0
FailuresGo = (w : World) (l : LockWorld) (u v : event.World) (g : Holdings) (content : ℕ → ℕ → List ℕ) (forced : ℕ → ℕ) (held left : Claims) (up : ℕ → Bool) (hs : ℕ → Held) (m : ℕ)
    → BothStand w l u g content forced held up hs → IsMember m → u.facility.lists.members ≤ 32 → MemberFailed u.facility m v.facility → v.drive ≡ u.drive → Forgets held left m → BothLead w l u v left (put up m false) hs

-- a group as it is made, which stands beside its good world of pages
abbrev pub GroupsBegin : Type 0
GroupsBegin = (w : World) (u : event.World) (g : Holdings) (content : ℕ → ℕ → List ℕ) (forced : ℕ → ℕ) (counter : ℕ) (sizes : Sizes) (held : Claims) (hs : ℕ → Held)
    → GroupStands w u g content forced (among sizes.members) hs → ((n : ℕ) → g.owner n ≡ None) → IsMade sizes counter u.facility → sizes.members ≤ 32 → sizes.agents ≤ 16 → KnowsNone held
    → ((m : ℕ) → among sizes.members m ≡ true → IsNew m sizes (hs m)) → BothStand w lock_start u g content forced held (among sizes.members) hs

-- a group as it was made, over a disk without logs
abbrev pub GroupsStart : Type 0
GroupsStart = (u : event.World) (pages : ℕ → List ℕ) (sizes : Sizes) (held : Claims) (hs : ℕ → Held)
    → IsMade sizes 0 u.facility → Shows u.drive pages → sizes.members ≤ 32 → sizes.agents ≤ 16 → KnowsNone held → ((m : ℕ) → among sizes.members m ≡ true → IsNew m sizes (hs m))
    → BothStand start lock_start u (made u.facility pages) (λ n v. pages n) (λ m. 0) held (among sizes.members) hs
