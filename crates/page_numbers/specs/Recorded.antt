-- That a number which was drawn for a change stands in a record, and on the pages of the change: of any event of a member that is up.
use Rattle.std.specs.Prelude.{◌≡◌, ◌≢◌, ℕ, ◌≤◌, List, length, Option, Some, None, IfSome}
use Rattle.page_format.specs.Fields.{page_size}
use Rattle.facility.specs.declared.command.Reply.TheVariants as reply
use Rattle.member_intents.specs.declared.intent.Intent.{Intent}
use Rattle.member_intents.specs.declared.intent.Intent.TheVariants as intent
use Rattle.member_intents.specs.declared.outcome.Answered.{Answered}
use Rattle.member_intents.specs.declared.outcome.Answered.TheVariants as answered
use Rattle.member_intents.specs.declared.outcome.Sent.{Sent}
use Rattle.member_trans.specs.declared.fate.Change.{Change}
use Rattle.member_trans.specs.Trans.{TranState, newest_of}
use Rattle.member_marks.specs.State.{tran_of}
use Rattle.member_needs.specs.declared.plans.Plan.{Plan}
use Rattle.member_needs.specs.declared.plans.Plan.TheVariants as plan
use Rattle.member_resources.specs.Held.{Held, begun}
use Rattle.member_resources.specs.Settled.{kept_of}
use Rattle.member_resources.specs.Events as event
use Rattle.member_resources.specs.Events.{Happens}
use Rattle.page_protocol.specs.Moves.{World}
use Rattle.page_world.specs.Holdings.{Holdings}
use Rattle.page_intents.specs.Frames.{Begins}
use Rattle.page_events.specs.Events.{IsRecorded}

-- ---- what neither the contracts of the mechanism nor the worlds say

-- a row's value has at most so many bytes
abbrev pub IsShort : Option (List ℕ) → Type 0
IsShort None = Unit {0}
IsShort (Some value) = length value ≤ 100

-- no page showed that it can't be the one that was looked for
abbrev pub IsUndamaged : Plan → Type 0
IsUndamaged plan.None = Unit {0}
IsUndamaged (plan.System patches) = Unit {0}
IsUndamaged (plan.Row c) = Unit {0}
IsUndamaged (plan.Back c) = Unit {0}
IsUndamaged (plan.Fault page at) = ⊥

-- nor is the row that is to be written too long
abbrev pub MayPut : Plan → Type 0
MayPut plan.None = Unit {0}
MayPut (plan.System patches) = Unit {0}
MayPut (plan.Row c) = IsShort c.after
MayPut (plan.Back c) = Unit {0}
MayPut (plan.Fault page at) = ⊥

-- nor is the row before or after the transaction's newest change, and the transaction has a name in the log
pub record MayPutBack (t : TranState) (p : Plan) : Type 0 where
  pub undamaged : IsUndamaged p
  pub named : t.first ≢ 0
  pub short : IfSome (newest_of t) (λ (it : Change). IsShort it.change.before × IsShort it.change.after)

-- by what was wanted
abbrev pub PlanTells : Held → Intent → Plan → Type 0
PlanTells h (intent.Change slot action frames) p = MayPut p
PlanTells h (intent.Undo o at) p = MayPutBack (tran_of h.marks o) p
PlanTells h _ p = Unit {0}

-- each version of each page is a page's bytes
abbrev pub AreWhole : World → (ℕ → ℕ → List ℕ) → Type 0
AreWhole w content = (n i : ℕ) → i ≤ (w.pages n).last → length (content n i) ≡ page_size

-- ---- the law

abbrev pub NumbersAreRecorded : Type 0
NumbersAreRecorded = (w : World) (u v : event.World) (g : Holdings) (content : ℕ → ℕ → List ℕ) (forced : ℕ → ℕ) (h k : Held) (i : Intent) (place : ℕ) (sent : Sent) (a : Answered) (number : ℕ)
    → Begins w g content forced (kept_of h) → AreWhole w content → (happens : Happens u h i place sent a v k) → PlanTells h i happens.plan → a ≡ answered.Reply (reply.Drawn number)
    → IsRecorded (begun happens.ready place) i happens.plan number place
