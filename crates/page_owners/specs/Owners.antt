-- Who owns a page claims it in the world of locks.
use Rattle.std.specs.Prelude.{◌≡◌, ◌≢◌, ℕ, List, [], ◌∷◌, Some}
use Rattle.ds_base.specs.declared.names.Sizes.{Sizes}
use Rattle.ds_model.specs.declared.lock.Name.TheVariants as name
use Rattle.lock_names.specs.declared.mode.Mode.TheVariants.{X}
use Rattle.lock_manager.specs.declared.claim.Claim.{Claim}
use Rattle.lock_manager.specs.Managers.{claims_of}
use Rattle.facility.specs.States.{Held as Facility}
use Rattle.lock_protocol.specs.Machine.{World as LockWorld}
use Rattle.lock_world.specs.Numbers.{number}
use Rattle.lock_world.specs.Tied.{Claims}
use Rattle.lock_intents.specs.Stands.{IsUp, Knows}
use Rattle.marks_law.specs.Slots.{SlotsStand}
use Rattle.member_intents.specs.declared.intent.Intent.{Intent}
use Rattle.member_intents.specs.declared.outcome.Answered.{Answered}
use Rattle.member_intents.specs.declared.outcome.Answered.TheVariants as answered
use Rattle.member_intents.specs.declared.outcome.Sent.{Sent}
use Rattle.member_marks.specs.State.{MarksState}
use Rattle.member_needs.specs.declared.plans.Plan.{Plan}
use Rattle.facility.specs.declared.command.Reply.TheVariants as reply
use Rattle.member_resources.specs.Held.{Held, IsNew, begun}
use Rattle.member_resources.specs.Events as event
use Rattle.member_resources.specs.Events.{Ends, Happens}
use Rattle.page_world.specs.Numbers.{page_at}
use Rattle.page_world.specs.Holdings.{Holdings}
use Rattle.page_groups.specs.Groups.{IsRecorded}

-- the page's owner claims it there, itself, in X
abbrev pub OwnersClaim : LockWorld → Holdings → Type 0
OwnersClaim l g = (n k : ℕ) → g.owner n ≡ Some k → l.claims k 0 (number (name.Page (page_at n))) ≡ Some X

-- ---- the claims of a member itself, which are those of its pages

abbrev pub AreInX : List Claim → Type 0
AreInX [] = Unit {0}
AreInX (c ∷ cs) = (c.mode ≡ X) × AreInX cs

abbrev pub OwnInX : MarksState → Type 0
OwnInX s = AreInX (claims_of s.locks 0)

-- so it is of a member that holds nothing, and no event of it changes that, nor what it is told
abbrev pub BeginInX : Type 0
BeginInX = (member : ℕ) (sizes : Sizes) (h : Held) → IsNew member sizes h → OwnInX h.marks

abbrev pub StayInX : Type 0
StayInX = (u v : event.World) (h k : Held) (i : Intent) (place : ℕ) (sent : Sent) (a : Answered) → Happens u h i place sent a v k → OwnInX h.marks → OwnInX k.marks

abbrev pub ToldInX : Type 0
ToldInX = (h k : Held) (place : ℕ) → Ends (begun h place) k → OwnInX h.marks → OwnInX k.marks

-- ---- a member that is up, beside the world of locks
pub record LocksStand (f : Facility) (held : Claims) (s : MarksState) : Type 0 where
  pub up : IsUp f s
  pub slots : SlotsStand s
  pub knows : Knows held s
  pub in_x : OwnInX s

-- ---- what the worlds don't say of an event: a number that is drawn for a change stands in a record, and on its pages; and the disk does
-- what it is asked
pub record IsGiven (ready : Held) (i : Intent) (p : Plan) (place : ℕ) (a : Answered) : Type 0 where
  pub recorded : (number : ℕ) → a ≡ answered.Reply (reply.Drawn number) → IsRecorded (begun ready place) i p number place
  pub works : a ≢ answered.Failed
