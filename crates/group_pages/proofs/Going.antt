-- Lists of moves, one behind the other.
use Rattle.std.proofs.Common.{subst, List, [], ◌∷◌, ◌++◌}
use Rattle.page_owners.specs.Given.{Drive}
use Rattle.group_locks.specs.Given.{CrewState}
use Rattle.page_protocol.specs.Moves.{Move, Run, World}
use Rattle.page_world.specs.Numbers.{set_of}
use Rattle.group_pages.specs.Events.{PageMoves}

pub run_on : (w mid v : World) (xs ys : List Move) → Run set_of w xs mid → Run set_of mid ys v → Run set_of w (xs ++ ys) v
run_on w mid v [] ys r q = subst (λ x. Run set_of x ys v) r q
run_on w mid v (e ∷ es) ys r q = (r.0, r.1, run_on r.0 mid v es ys r.2 q)

pub moved_behind : (e : Drive) (new : CrewState) (w mid : World) (moves : List Move) → Run set_of w moves mid → PageMoves e new mid → PageMoves e new w
moved_behind e new w mid moves run a = record { moves = moves ++ a.moves; world = a.world; run = run_on w mid a.world moves a.moves run a.run; tied = a.tied }
