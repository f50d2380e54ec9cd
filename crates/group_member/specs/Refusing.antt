-- Why an event of a member is refused.
use Rattle.std.specs.Prelude.{◌≡◌, ◌⊎◌, ℕ, true, false, Option, Some, None}
use Rattle.list_structure.specs.Bells.{CanRing}
use Rattle.list_structure.specs.Standings.{status_of, is_live}
use Rattle.member_intents.specs.declared.intent.Intent.{Intent}
use Rattle.member_intents.specs.declared.outcome.Answered.{Answered}
use Rattle.member_intents.specs.declared.test.Test.{Test}
use Rattle.member_resources.specs.Held.{Held}
use Rattle.member_resources.specs.Events.{World, IsUnlawful, IsNotExecutable}
use Rattle.rebuild_resources.specs.Events as rebuilding
use Rattle.rebuild_resources.specs.State.{RebuildState}
use Rattle.rebuild_resources.specs.declared.intent.RebuildTest.{RebuildTest}
use Rattle.restart_marks.specs.declared.intent.RestartSent.{RestartSent}
use Rattle.restart_marks.specs.declared.intent.RestartTest.{RestartTest}
use Rattle.member_restart.specs.Events as restarting
use Rattle.member_restart.specs.Held as held
use Rattle.group_member.specs.declared.rebuilding.Rebuilding.{Rebuilding}
use Rattle.group_member.specs.declared.restarting.Restarting.{Restarting}
use Rattle.group_member.specs.declared.stepped.Stepped.{Stepped}
use Rattle.group_member.specs.Happening.{IsInHand, Makes, RestartMakes, as_rebuilding, as_restarting}
use Rattle.group_member.specs.Members.{Member}
use Rattle.group_member.specs.Queries.{answers_held}
use Rattle.group_member.specs.Resting.{RestsIdle, frees_claimed}
use Rattle.group_member.specs.Restarting.{LeftIsRefused}

-- an intent of the member, which answers no query about a page whose lock its restart has, failed a named test, or the facility's
-- condition for its command didn't hold
pub record OwnIsRefused (m : Member) (w : World) (place : ℕ) (v : World) : Type 0 where
  pub intent : Intent
  pub keeps : answers_held m.restart intent ≡ false
  pub why : ((test : Test) × (k : Held) × IsUnlawful w m.holds intent place test v k) ⊎ IsNotExecutable w m.holds intent place v

-- so did one of the restart in hand
pub record RestartIsRefused (m : Member) (w v : World) : Type 0 where
  pub before : Restarting
  pub after : held.Held
  pub had : m.restart ≡ Some before
  pub why : ((test : RestartTest) × restarting.IsUnlawful (as_restarting w) before.resources test (as_restarting v) after) ⊎ restarting.IsNotExecutable (as_restarting w) before.resources (as_restarting v) after

-- so did one of the rebuild in hand
pub record RebuildIsRefused (m : Member) (w v : World) : Type 0 where
  pub before : Rebuilding
  pub after : RebuildState
  pub had : IsInHand m.id m.rebuild before
  pub why : ((test : RebuildTest) × rebuilding.IsUnlawful (as_rebuilding w) before.resources test (as_rebuilding v) after) ⊎ rebuilding.IsNotExecutable (as_rebuilding w) before.resources (as_rebuilding v) after

-- the restart in hand has made its event, and a transaction that it leaves open may not be adopted
pub record AdoptionIsRefused (m : Member) (w v : World) : Type 0 where
  pub sent : RestartSent
  pub answered : Answered
  pub reached : Restarting
  pub makes : RestartMakes m w sent answered v reached
  pub left : LeftIsRefused reached m.holds

-- it has freed a record whose name the member claims
pub record PurgeIsRefused (m : Member) (w v : World) : Type 0 where
  pub sent : RestartSent
  pub answered : Answered
  pub reached : Restarting
  pub makes : RestartMakes m w sent answered v reached
  pub claimed : frees_claimed m.holds.marks sent ≡ true

-- an event of the restart in hand, or what follows it
abbrev pub RestartStepIsRefused : Member → World → World → Type 0
RestartStepIsRefused m w v = RestartIsRefused m w v ⊎ (AdoptionIsRefused m w v ⊎ PurgeIsRefused m w v)

-- the member has made its event, and a slot has a transaction while its restart is in hand
pub record BeginIsRefused (m : Member) (w : World) (place : ℕ) (v : World) : Type 0 where
  pub stepped : Stepped
  pub mid : Member
  pub makes : Makes m w place stepped v mid
  pub begun : ¬ RestsIdle mid

pub data Cause : Type 0 where
  Own : Cause
  Restart : Cause
  Rebuild : Cause
  Adoption : Cause
  Purge : Cause
  Begin : Cause
  Standing : Cause
  Bells : Cause

-- it isn't live; and where it fails, the bells are at their end
abbrev pub IsBecause : Cause → Member → World → ℕ → World → Type 0
IsBecause Own m w place v = OwnIsRefused m w place v
IsBecause Restart m w place v = RestartIsRefused m w v
IsBecause Rebuild m w place v = RebuildIsRefused m w v
IsBecause Adoption m w place v = AdoptionIsRefused m w v
IsBecause Purge m w place v = PurgeIsRefused m w v
IsBecause Begin m w place v = BeginIsRefused m w place v
IsBecause Standing m w place v = is_live (status_of w.facility.lists.statuses m.id) ≡ false
IsBecause Bells m w place v = ¬ CanRing w.facility.lists.bells

-- the event of the member is refused, for one of these causes
pub record IsRefused (m : Member) (w : World) (place : ℕ) (v : World) : Type 0 where
  pub cause : Cause
  pub because : IsBecause cause m w place v
