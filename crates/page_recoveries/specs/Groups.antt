-- A group that has failed as a whole, and its restart.
use Rattle.std.specs.Prelude.{◌≡◌, ℕ, List, Option, Some, None}
use Rattle.group_pages.specs.Given.{Drive, Fallen, Shows}
use Rattle.group_restart.specs.Course.{IsBegun}
use Rattle.group_restart.specs.Machine.{Restart}
use Rattle.group_core.specs.Given.{CrewState, GroupFails}
use Rattle.page_protocol.specs.Moves.{Move, Run, World}
use Rattle.page_world.specs.Groups.{Remains}
use Rattle.page_world.specs.Numbers.{set_of}
use Rattle.group_pages.specs.Stands.{PagesTied}

-- while its restart is in hand, a good world stands beside the disk alone
pub record PagesFallen (d : Drive) (w : World) : Type 0 where
  pub remains : Remains
  pub versions : ℕ → ℕ → List ℕ
  pub fallen : Fallen w remains versions
  pub drive : Shows d remains.disk

abbrev pub PagesBy : Option Restart → Drive → CrewState → World → Type 0
PagesBy None d s w = PagesTied d s w
PagesBy (Some restart) d s w = PagesFallen d w

-- the invariant
abbrev pub PagesStand : Drive → CrewState → World → Type 0
PagesStand d s w = PagesBy s.restart d s w

-- moves lead to a world beside which the group still stands; a group restart that is in hand then has just begun
pub record GroupMoves (e : Drive) (new : CrewState) (w : World) : Type 0 where
  pub moves : List Move
  pub world : World
  pub run : Run set_of w moves world
  pub stands : PagesStand e new world
  pub begun : (r : Restart) → new.restart ≡ Some r → IsBegun r

-- its failure, or another one while its restart is in hand
abbrev pub GroupFailsGo : Type 0
GroupFailsGo = (d : Drive) (old new : CrewState) (w : World) → GroupFails old new → PagesStand d old w → GroupMoves d new w
