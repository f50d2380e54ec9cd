-- What an event of a group is in the world of pages.
use Rattle.std.specs.Prelude.{List}
use Rattle.page_owners.specs.Given.{Drive}
use Rattle.group_locks.specs.Given.{CrewState}
use Rattle.page_protocol.specs.Moves.{Move, Run, World}
use Rattle.page_world.specs.Numbers.{set_of}
use Rattle.group_pages.specs.Stands.{PagesTied}

-- moves lead to a world beside which the group still stands
pub record PageMoves (e : Drive) (new : CrewState) (w : World) : Type 0 where
  pub moves : List Move
  pub world : World
  pub run : Run set_of w moves world
  pub tied : PagesTied e new world
