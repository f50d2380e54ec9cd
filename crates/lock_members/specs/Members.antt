-- The events of a member that is up, with its rebuild, and the failure of any member.
use Rattle.std.specs.Prelude.{◌≡◌, ℕ, ◌≤◌, [], ◌∷◌, List, None}
use Rattle.ds_base.specs.Ids.{IsMember}
use Rattle.ds_base.specs.declared.names.Sizes.{Sizes}
use Rattle.facility.specs.States.{Held, MemberFailed}
use Rattle.member_resources.specs.Events as event
use Rattle.script_fates.specs.Fated.{FatesState}
use Rattle.group_member.specs.declared.stepped.Stepped.{Stepped}
use Rattle.group_member.specs.Happening.{Steps}
use Rattle.group_member.specs.Members.{IsDown, Member}
use Rattle.lock_protocol.specs.Machine.{World}
use Rattle.lock_protocol.specs.Moves.{Move, Fail}
use Rattle.lock_protocol.specs.Own.{AreOf}
use Rattle.lock_protocol.specs.Sound.{Sound}
use Rattle.lock_world.specs.Tied.{Claims, Tied, Moved}
use Rattle.lock_world.specs.Views.{entry_in}
use Rattle.lock_events.specs.Given.{IsUp}
use Rattle.lock_events.specs.Standings.{SameStandings}
use Rattle.lock_events.specs.Given.{FreeHoldNothing}
use Rattle.lock_events.specs.Given.{SlotsStand}
use Rattle.lock_members.specs.Known.{KnowsOwn, LeadsTo}

-- it is up in a group of this facility, its transactions are its agents', and no restart is in hand
pub record MemberIsUp (f : Held) (m : Member) : Type 0 where
  pub up : IsUp f m.holds.marks
  pub id : m.holds.marks.member ≡ m.id
  pub slots : SlotsStand m.holds.marks
  pub rests : m.restart ≡ None

-- moves of the member lead to a world that stands beside what its event left; it is still up, and so is whoever was
pub record MemberGoes (w : World) (f g : Held) (left : Claims) (m n : Member) : Type 0 where
  pub moves : List Move
  pub own : AreOf m.id moves
  pub moved : Moved w moves f.locks g.locks g.lists left
  pub same : n.id ≡ m.id
  pub stands : MemberIsUp g n
  pub standings : SameStandings f.lists g.lists

abbrev pub StepsGo : Type 0
StepsGo = (w : World) (u v : event.World) (held left : Claims) (m n : Member) (f g : FatesState) (place : ℕ) (stepped : Stepped)
    → Sound (entry_in u.facility.locks) w → Tied w u.facility.locks u.facility.lists held → MemberIsUp u.facility m → KnowsOwn held m
    → Steps m u f place stepped n v g → LeadsTo held left m n → MemberGoes w u.facility v.facility left m n

-- a member that fails, whatever its standing, with all that it held
abbrev pub FailuresGo : Type 0
FailuresGo = (w : World) (f g : Held) (held left : Claims) (m n : Member) (sizes : Sizes)
    → Tied w f.locks f.lists held → IsMember m.id → f.lists.members ≤ 32 → MemberFailed f m.id g → IsDown sizes n → LeadsTo held left m n → Moved w (Fail m.id ∷ []) f.locks g.locks g.lists left

-- an agent without a transaction has no claims behind the event either
abbrev pub StepsKeepFree : Type 0
StepsKeepFree = (m n : Member) (u v : event.World) (f g : FatesState) (place : ℕ) (stepped : Stepped) → Steps m u f place stepped n v g → FreeHoldNothing m.holds.marks → FreeHoldNothing n.holds.marks
