-- What a member casts out while its restart is in hand, which may wait for room in the cache.
use Rattle.std.specs.Prelude.{◌≡◌, ◌≢◌, ℕ, true, false, List, None, is_some}
use Rattle.ds_base.specs.declared.names.Sizes.{Sizes}
use Rattle.member_intents.specs.declared.outcome.Answered.{Answered}
use Rattle.member_intents.specs.declared.outcome.Answered.TheVariants as answered
use Rattle.member_intents.specs.declared.outcome.Sent.{Sent}
use Rattle.member_resources.specs.Held.{Held}
use Rattle.member_resources.specs.Events as event
use Rattle.page_protocol.specs.Moves.{World}
use Rattle.page_world.specs.Holdings.{Holdings}
use Rattle.page_intents.specs.Castouts.{HasCast, LeavesMember}
use Rattle.page_members.specs.Members.{Group, GroupGoes, Shows}
use Rattle.group_member.specs.declared.stepped.Stepped.{Stepped}
use Rattle.group_member.specs.declared.stepped.Stepped.TheVariants as steps
use Rattle.group_member.specs.Happening.{Acts, Makes, Steps}
use Rattle.group_member.specs.Members.{IsDown, Member}
use Rattle.page_owners.specs.Resting.{casts_out}
use Rattle.script_fates.specs.Fated.{FatesState}

-- ---- the castout that it has in hand, with its bytes

pub record SameCast (h k : Held) : Type 0 where
  pub cast : k.cast ≡ h.cast
  pub buffer : k.buffer ≡ h.buffer

-- it has none behind its failure
abbrev pub DownCastsNone : Type 0
DownCastsNone = (sizes : Sizes) (m : Member) → IsDown sizes m → m.holds.cast ≡ None

-- the event casts nothing out
abbrev pub CastsNothing : (m : Member) (u : event.World) (place : ℕ) (stepped : Stepped) (v : event.World) (n : Member) → Makes m u place stepped v n → Type 0
CastsNothing m u place (steps.Sent s a) v n e = casts_out e.intent ≡ false
CastsNothing m u place _ v n e = Unit {0}

-- each other event of it leaves that as it is, while its restart is in hand
abbrev pub RestsKeepCast : Type 0
RestsKeepCast = (m n : Member) (u v : event.World) (f g : FatesState) (place : ℕ) (stepped : Stepped)
    → is_some m.restart ≡ true → (e : Steps m u f place stepped n v g) → CastsNothing m u place stepped v e.mid e.makes → SameCast m.holds n.holds

-- ---- its own castout events

-- moves lead to a good world beside what is left. What the group holds of the member is as it was, but for what it casts out, and so is all that it
-- holds of the others
pub record CastLeads (w : World) (v : event.World) (g : Holdings) (content : ℕ → ℕ → List ℕ) (forced : ℕ → ℕ) (h k : Held) : Type 0 where
  pub left : Holdings
  pub goes : GroupGoes w g left content forced h.marks.member
  pub facility : left.facility ≡ v.facility
  pub drive : Shows v.drive left.disk
  pub cast : HasCast left h.marks.member k.cast k.buffer
  pub own : LeavesMember g left h.marks.member

abbrev pub CastsGo : Type 0
CastsGo = (w : World) (g : Holdings) (content : ℕ → ℕ → List ℕ) (forced : ℕ → ℕ) (m n : Member) (u v : event.World) (place : ℕ) (s : Sent) (a : Answered)
    → Group w g content forced → g.facility ≡ u.facility → Shows u.drive g.disk → HasCast g m.holds.marks.member m.holds.cast m.holds.buffer
    → (acts : Acts m u place s a v n) → casts_out acts.intent ≡ true → a ≢ answered.Failed → CastLeads w v g content forced m.holds n.holds
