-- A member of a group fails, as it was to, or since a call of the disk has failed.
use Rattle.std.specs.Prelude.{◌≡◌, ℕ, List}
use Rattle.group_pages.specs.Given.{Drive, FailsAt, Group, LocksTied, Member, SameOthers, Shows}
use Rattle.group_core.specs.Given.{CrewState}
use Rattle.lock_protocol.specs.Machine.{World as LockWorld}
use Rattle.page_protocol.specs.Moves.{Move, Run, World}
use Rattle.page_world.specs.Holdings.{Holdings}
use Rattle.page_world.specs.Numbers.{set_of}
use Rattle.group_pages.specs.Events.{PageMoves}
use Rattle.group_pages.specs.Stands.{PagesTied}

-- Moves lead to a good world beside the disk that is left, and the facility as it was. The group holds of all others what it held.
pub record BreakLeads (w : World) (e : Drive) (g : Holdings) (content : ℕ → ℕ → List ℕ) (forced : ℕ → ℕ) (m : ℕ) : Type 0 where
  pub moves : List Move
  pub world : World
  pub run : Run set_of w moves world
  pub left : Holdings
  pub stands : Group world left content forced
  pub facility : left.facility ≡ g.facility
  pub drive : Shows e left.disk
  pub others : SameOthers g left forced forced m
  pub owner : left.owner ≡ g.owner

-- behind the call, where one has failed, the member fails
abbrev pub MemberFailsGo : Type 0
MemberFailsGo = (d e : Drive) (old new : CrewState) (at : ℕ) (m n : Member) (l : LockWorld) (w : World)
    → LocksTied old l → FailsAt old new at m n → (t : PagesTied d old w) → BreakLeads w e t.holdings t.versions t.forced m.id → PageMoves e new w
