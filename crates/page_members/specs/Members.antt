-- A member of a group that fails, restarts and is up again, beside the pages of the group.
use Rattle.std.specs.Prelude.{◌≡◌, ◌≢◌, ℕ, ◌≤◌, List, Some}
use Rattle.cache_structure.specs.Sound.{IsSound}
use Rattle.list_structure.specs.declared.standing.MemberStatus.TheVariants as standing
use Rattle.list_structure.specs.Standings.{status_of}
use Rattle.facility.specs.States.{Held, MemberFailed}
use Rattle.page_protocol.specs.Moves.{World, Move, Run}
use Rattle.page_protocol.specs.Always.{Good}
use Rattle.page_world.specs.Numbers.{set_of}
use Rattle.page_world.specs.Holdings.{Holdings, StandsAs, with_facility}
use Rattle.page_world.specs.Failing.{without}
use Rattle.page_world.specs.Tied.{Tied}
use Rattle.page_events.specs.Given.{AreNumbered}
-- given out again: a member beside its group, and any event of it
pub use Rattle.page_events.specs.Beside.{Beside, Leads, OthersStayUp, SameOthers, Shows, WritesShow}
pub use Rattle.page_events.specs.Events.{EventGoes, IsRecorded, Supplied, ToldGoes, page_named, page_taken}
pub use Rattle.page_events.specs.Quiet.{CommandsLeave, leaves_pages}

-- a good world that stands beside a group, whose versions show their numbers
pub record Group (w : World) (g : Holdings) (content : ℕ → ℕ → List ℕ) (forced : ℕ → ℕ) : Type 0 where
  pub good : Good w
  pub tied : Tied w g content
  pub numbered : AreNumbered w content forced
  pub sound : IsSound g.facility.directory

-- moves lead to one that stands beside what the member has left, and all else of the others is as it was
pub record GroupGoes (w : World) (g left : Holdings) (content : ℕ → ℕ → List ℕ) (forced : ℕ → ℕ) (m : ℕ) : Type 0 where
  pub moves : List Move
  pub world : World
  pub run : Run set_of w moves world
  pub stands : Group world left content forced
  pub others : SameOthers g left forced forced m

-- it fails, whatever its standing, with its frames, its castout and what its log hadn't on disk
abbrev pub FailuresGo : Type 0
FailuresGo = (w : World) (g : Holdings) (content : ℕ → ℕ → List ℕ) (forced : ℕ → ℕ) (m : ℕ) (v : Held)
    → Group w g content forced → 1 ≤ m → MemberFailed g.facility m v → GroupGoes w g (with_facility (without g m) v) content forced m

-- its restart begins
abbrev pub RestartsGo : Type 0
RestartsGo = (w : World) (g : Holdings) (content : ℕ → ℕ → List ℕ) (forced : ℕ → ℕ) (m : ℕ) (v : Held)
    → Group w g content forced → 1 ≤ m → m ≤ g.facility.lists.members → status_of g.facility.lists.statuses m ≡ standing.Failed → StandsAs g.facility v m standing.Restarting
    → GroupGoes w g (with_facility g v) content forced m

-- and ends, with no page lock left
abbrev pub OpensGo : Type 0
OpensGo = (w : World) (g : Holdings) (content : ℕ → ℕ → List ℕ) (forced : ℕ → ℕ) (m : ℕ) (v : Held)
    → Group w g content forced → 1 ≤ m → m ≤ g.facility.lists.members → status_of g.facility.lists.statuses m ≡ standing.Restarting → ((n : ℕ) → g.owner n ≢ Some m) → StandsAs g.facility v m standing.Up
    → GroupGoes w g (with_facility g v) content forced m
