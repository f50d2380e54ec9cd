-- Any event of a member that is up, as moves in the world of pages.
use Rattle.std.specs.Prelude.{◌≡◌, ◌≢◌, ℕ, true, false, List, Option, Some, None}
use Rattle.ds_base.specs.declared.names.PageId.{PageId}
use Rattle.ds_model.specs.declared.lock.Name.{Name}
use Rattle.ds_model.specs.declared.lock.Name.TheVariants as name
use Rattle.lock_manager.specs.Buckets.{AreDistinct}
use Rattle.lock_manager.specs.Managers.{claims_of}
use Rattle.facility.specs.declared.command.Reply.TheVariants as reply
use Rattle.member_intents.specs.declared.intent.Intent.{Intent}
use Rattle.member_intents.specs.declared.intent.Intent.TheVariants as intent
use Rattle.member_intents.specs.declared.outcome.Answered.{Answered}
use Rattle.member_intents.specs.declared.outcome.Answered.TheVariants as answered
use Rattle.member_intents.specs.declared.outcome.Sent.{Sent}
use Rattle.member_marks.specs.Claims.{has_page}
use Rattle.member_marks.specs.Records.{may_change}
use Rattle.member_marks.specs.State.{MarksState}
use Rattle.member_needs.specs.declared.plans.Plan.{Plan}
use Rattle.member_needs.specs.declared.plans.Plan.TheVariants as plan
use Rattle.member_effects.specs.Changes.{drawn_after, undone_after}
use Rattle.member_resources.specs.Held.{Held, begun}
use Rattle.member_resources.specs.Settled.{kept_of}
use Rattle.member_resources.specs.Events as event
use Rattle.member_resources.specs.Events.{Ends, Happens}
use Rattle.page_protocol.specs.Moves.{World}
use Rattle.page_world.specs.Numbers.{page_number}
use Rattle.page_world.specs.Holdings.{Holdings}
use Rattle.page_intents.specs.Draws.{changes_in, is_frame, IsPutBack, ShowNumber}
use Rattle.page_events.specs.Beside.{Beside, Leads}

-- ---- what the contracts of the mechanism don't say

abbrev pub page_named : Name → Option PageId
page_named (name.Page page) = Some page
page_named (name.Space table) = None
page_named (name.Row table key) = None
page_named (name.Set number) = None

-- the page whose lock is taken
abbrev pub page_taken : Intent → Option PageId
page_taken (intent.Obtain o n m) = page_named n
page_taken (intent.Grant o n m) = page_named n
page_taken _ = None

-- the plan isn't a fault, and the record of a row has what it needs
abbrev pub IsChange : MarksState → ℕ → Plan → ℕ → Type 0
IsChange s slot plan.None number = Unit {0}
IsChange s slot (plan.System patches) number = Unit {0}
IsChange s slot (plan.Row c) number = may_change s slot number c ≡ true
IsChange s slot (plan.Back c) number = Unit {0}
IsChange s slot (plan.Fault page at) number = ⊥

-- a change, or its inverse, may be put, and the pages that it leaves show its number
abbrev pub IsRecorded : Held → Intent → Plan → ℕ → ℕ → Type 0
IsRecorded h (intent.Change slot action frames) p number place =
    IsChange h.marks slot p number × ShowNumber (drawn_after (kept_of h) slot frames p (reply.Drawn number) place) (changes_in p frames) number
IsRecorded h (intent.Undo o at) p number place =
    IsPutBack h.marks o p number × ShowNumber (undone_after (kept_of h) o at p (reply.Drawn number) place) (is_frame (Some at)) number
IsRecorded h _ p number place = Unit {0}

pub record Supplied (g : Holdings) (h ready : Held) (i : Intent) (p : Plan) (place : ℕ) (a : Answered) : Type 0 where
  -- no two page claims are on one page
  pub distinct : AreDistinct (claims_of h.marks.locks 0)
  -- a page's lock is granted where the member has it, or nobody
  pub free : (page : PageId) (version : ℕ) → page_taken i ≡ Some page → a ≡ answered.Reply (reply.Granted version) → has_page h.marks page ≡ false → g.owner (page_number page) ≡ None
  -- a number that is drawn for a change stands in a record, and on its pages
  pub recorded : (number : ℕ) → a ≡ answered.Reply (reply.Drawn number) → IsRecorded (begun ready place) i p number place
  -- the disk does what it is asked
  pub works : a ≢ answered.Failed

-- ---- any event

-- whatever was wanted, it was lawful, went out and was settled, and then the policy made local moves
abbrev pub EventGoes : Type 0
EventGoes = (w : World) (u v : event.World) (g : Holdings) (content : ℕ → ℕ → List ℕ) (forced : ℕ → ℕ) (h k : Held) (i : Intent) (place : ℕ) (sent : Sent) (a : Answered)
    → Beside w u g content forced h → (happens : Happens u h i place sent a v k) → Supplied g h happens.ready i happens.plan place a → Leads w v g content forced h k

-- the member is told of its restart or its rebuild
abbrev pub ToldGoes : Type 0
ToldGoes = (w : World) (u : event.World) (g : Holdings) (content : ℕ → ℕ → List ℕ) (forced : ℕ → ℕ) (h k : Held) (place : ℕ)
    → Beside w u g content forced h → Ends (begun h place) k → Leads w u g content forced h k
