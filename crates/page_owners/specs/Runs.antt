-- Lists of events of a group that has just started: of members that are up, and their failures.
use Rattle.std.specs.Prelude.{◌≡◌, ◌⊎◌, ℕ, ◌≤◌, Bool, true, false, List, [], ◌∷◌}
use Rattle.ds_base.specs.Ids.{IsMember}
use Rattle.ds_base.specs.declared.names.Sizes.{Sizes}
use Rattle.facility.specs.States.{IsMade, MemberFailed}
use Rattle.lock_protocol.specs.Machine.{World as LockWorld}
use Rattle.lock_world.specs.Failing.{Forgets, KnowsNone}
use Rattle.lock_world.specs.Tied.{Claims}
use Rattle.lock_intents.specs.Stands.{Leads}
use Rattle.member_intents.specs.declared.intent.Intent.{Intent}
use Rattle.member_intents.specs.declared.outcome.Answered.{Answered}
use Rattle.member_intents.specs.declared.outcome.Sent.{Sent}
use Rattle.member_resources.specs.Held.{Held, IsNew, begun}
use Rattle.member_resources.specs.Events as event
use Rattle.member_resources.specs.Events.{Ends, Happens}
use Rattle.page_protocol.specs.Page.{put}
use Rattle.page_protocol.specs.Moves.{World, Move, Run, start}
use Rattle.page_world.specs.Numbers.{set_of}
use Rattle.page_world.specs.Holdings.{Holdings}
use Rattle.page_groups.specs.Groups.{Shows, among}
use Rattle.page_owners.specs.Owners.{IsGiven}
use Rattle.page_owners.specs.Groups.{BothStand}

-- the facility and the disk, the claims that are known of, and by member whether it is up, and what it holds
pub record Whole : Type 0 where
  pub outside : event.World
  pub held : Claims
  pub up : ℕ → Bool
  pub holds : ℕ → Held

-- ---- what befalls it

-- a member that is up makes an event
pub record Acts (s t : Whole) : Type 0 where
  pub member : ℕ
  pub intent : Intent
  pub place : ℕ
  pub sent : Sent
  pub answered : Answered
  pub after : Held
  pub was_up : s.up member ≡ true
  pub happens : Happens s.outside (s.holds member) intent place sent answered t.outside after
  pub given : IsGiven happens.ready intent happens.plan place answered
  pub leads : Leads s.held t.held (s.holds member).marks after.marks
  pub same : t.up ≡ s.up
  pub left : t.holds ≡ put s.holds member after

-- one is told of its restart or its rebuild
pub record IsTold (s t : Whole) : Type 0 where
  pub member : ℕ
  pub place : ℕ
  pub after : Held
  pub was_up : s.up member ≡ true
  pub ends : Ends (begun (s.holds member) place) after
  pub leads : Leads s.held t.held (s.holds member).marks after.marks
  pub outside : t.outside ≡ s.outside
  pub same : t.up ≡ s.up
  pub left : t.holds ≡ put s.holds member after

-- one fails, whatever its standing
pub record Fails (s t : Whole) : Type 0 where
  pub member : ℕ
  pub is : IsMember member
  pub few : s.outside.facility.lists.members ≤ 32
  pub failed : MemberFailed s.outside.facility member t.outside.facility
  pub drive : t.outside.drive ≡ s.outside.drive
  pub forgets : Forgets s.held t.held member
  pub down : t.up ≡ put s.up member false
  pub left : t.holds ≡ s.holds

abbrev pub Goes : Whole → Whole → Type 0
Goes s t = Acts s t ⊎ (IsTold s t ⊎ Fails s t)

-- one behind the other
abbrev pub AllGo : Whole → List Whole → Whole → Type 0
AllGo s [] t = t ≡ s
AllGo s (x ∷ xs) t = Goes s x × AllGo x xs t

-- ---- where it leads

-- the group stands beside a good world of pages, to which moves lead from this one, and a sound world of locks
pub record StandsBehind (w : World) (s : Whole) : Type 0 where
  pub moves : List Move
  pub world : World
  pub run : Run set_of w moves world
  pub locks : LockWorld
  pub holdings : Holdings
  pub versions : ℕ → ℕ → List ℕ
  pub force : ℕ → ℕ
  pub stands : BothStand world locks s.outside holdings versions force s.held s.up s.holds

-- as it was made, over a disk without logs
pub record IsFresh (s : Whole) : Type 0 where
  pub sizes : Sizes
  pub pages : ℕ → List ℕ
  pub facility : IsMade sizes 0 s.outside.facility
  pub drive : Shows s.outside.drive pages
  pub few : sizes.members ≤ 32
  pub agents : sizes.agents ≤ 16
  pub knows : KnowsNone s.held
  pub all_up : s.up ≡ among sizes.members
  pub each : (m : ℕ) → among sizes.members m ≡ true → IsNew m sizes (s.holds m)

abbrev pub RunsStand : Type 0
RunsStand = (s t : Whole) (xs : List Whole) → IsFresh s → AllGo s xs t → StandsBehind start t
