-- A member that has nothing in hand puts no record.
use Rattle.std.specs.Prelude.{◌≡◌, ℕ, true, false, []}
use Rattle.ds_base.specs.declared.names.PageId.{PageId}
use Rattle.member_trans.specs.Trans.{is_free}
use Rattle.member_marks.specs.Claims.{has_page}
use Rattle.member_marks.specs.Local.{Reaches}
use Rattle.member_marks.specs.State.{MarksState, slot_tran}
use Rattle.member_intents.specs.declared.intent.Intent.{Intent}
use Rattle.member_intents.specs.declared.outcome.Answered.{Answered}
use Rattle.member_intents.specs.declared.outcome.Sent.{Sent}
use Rattle.member_effects.specs.Puts.{event_records}
use Rattle.member_resources.specs.Events.{Happens, World}
use Rattle.member_resources.specs.Held.{Held, begun}

-- no slot has a transaction, and the member claims no page, as long as its restart hasn't handed over
pub record HasNothing (s : MarksState) : Type 0 where
  pub free : (slot : ℕ) → is_free (slot_tran s slot).stage ≡ true
  pub unclaimed : (page : PageId) → has_page s page ≡ false

-- an event of it puts no record: changes and commits are those of a transaction in a slot, and what is taken back stands in a page that is claimed
abbrev pub NothingIsPut : Type 0
NothingIsPut = (w v : World) (h k : Held) (i : Intent) (place : ℕ) (sent : Sent) (a : Answered)
    → (happens : Happens w h i place sent a v k) → HasNothing h.marks → event_records (begun happens.ready place).marks i happens.plan a ≡ []

-- so where nothing waits in the buffer, nothing does behind it
abbrev pub NothingWaits : Type 0
NothingWaits = (w v : World) (h k : Held) (i : Intent) (place : ℕ) (sent : Sent) (a : Answered)
    → Happens w h i place sent a v k → HasNothing h.marks → h.marks.log.pending ≡ [] → k.marks.log.pending ≡ []

-- local moves leave the buffer as it is
abbrev pub LocalsLeave : Type 0
LocalsLeave = (s t : MarksState) → Reaches s t → t.log ≡ s.log
