-- The standings of the members, which no event of a member's own changes.
use Rattle.std.specs.Prelude.{◌≡◌, ℕ}
use Rattle.list_structure.specs.States.{ListsState}
use Rattle.member_intents.specs.declared.intent.Intent.{Intent}
use Rattle.member_intents.specs.declared.outcome.Answered.{Answered}
use Rattle.member_intents.specs.declared.outcome.Sent.{Sent}
use Rattle.member_resources.specs.Held.{Held}
use Rattle.member_resources.specs.Events.{World, Happens}

pub record SameStandings (f g : ListsState) : Type 0 where
  pub statuses : g.statuses ≡ f.statuses
  pub members : g.members ≡ f.members

-- whatever the member's own standing
abbrev pub StandingsStay : Type 0
StandingsStay = (u v : World) (h k : Held) (i : Intent) (place : ℕ) (sent : Sent) (a : Answered) → Happens u h i place sent a v k → SameStandings u.facility.lists v.facility.lists
