-- The records that an event of a member puts in its log buffer.
use Rattle.std.specs.Prelude.{◌≡◌, ℕ, ◌&&◌, Bool, true, false, List, [], ◌++◌}
use Rattle.std.specs.List.{AllByRecursion}
use Rattle.ds_base.specs.declared.names.Sizes.{Sizes}
use Rattle.ds_model.specs.RecordBytes.{IsAllowed, log_bytes}
use Rattle.ds_model.specs.declared.log.LogRecord.{LogRecord}
use Rattle.member_marks.specs.Local.{Reaches}
use Rattle.member_marks.specs.State.{MarksState}
use Rattle.member_intents.specs.declared.intent.Intent.{Intent}
use Rattle.member_intents.specs.declared.intent.Intent.TheVariants as intent
use Rattle.member_intents.specs.declared.outcome.Answered.{Answered}
use Rattle.member_intents.specs.declared.outcome.Answered.TheVariants as answered
use Rattle.member_intents.specs.declared.outcome.Sent.{Sent}
use Rattle.member_effects.specs.Puts.{event_records}
use Rattle.member_resources.specs.Events.{Happens, World}
use Rattle.member_resources.specs.Held.{Held, IsNew, begun}

-- ---- the buffer behind it

abbrev pub is_done : Answered → Bool
is_done answered.None = false
is_done (answered.Reply r) = false
is_done answered.Done = true
is_done answered.Failed = false

abbrev pub is_append : Intent → Bool
is_append intent.Append = true
is_append _ = false

-- where an append was done, the records of the buffer are on disk, and none waits
abbrev pub pending_after : Bool → List ℕ → List LogRecord → List ℕ
pending_after true pending new = []
pending_after false pending new = pending ++ log_bytes new

-- the event puts its records behind those that wait
abbrev pub EventsPut : Type 0
EventsPut = (w v : World) (h k : Held) (i : Intent) (place : ℕ) (sent : Sent) (a : Answered) → (happens : Happens w h i place sent a v k)
    → k.marks.log.pending ≡ pending_after (is_done a && is_append i) h.marks.log.pending (event_records (begun happens.ready place).marks i happens.plan a)

-- ---- records that are allowed

-- those that wait in the buffer are
pub record BufferIsAllowed (s : MarksState) : Type 0 where
  pub pend : List LogRecord
  pub spelled : s.log.pending ≡ log_bytes pend
  pub allowed : AllByRecursion IsAllowed pend

abbrev pub AllowedBegin : Type 0
AllowedBegin = (member : ℕ) (sizes : Sizes) (h : Held) → IsNew member sizes h → BufferIsAllowed h.marks

abbrev pub AllowedStay : Type 0
AllowedStay = (w v : World) (h k : Held) (i : Intent) (place : ℕ) (sent : Sent) (a : Answered) → Happens w h i place sent a v k → BufferIsAllowed h.marks → BufferIsAllowed k.marks

abbrev pub AllowedReach : Type 0
AllowedReach = (s t : MarksState) → Reaches s t → BufferIsAllowed s → BufferIsAllowed t
