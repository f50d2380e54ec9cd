-- The numbers in a member's log, and those by which the log names its transactions, beside the counter that they are drawn from.
use Rattle.std.specs.Prelude.{◌≡◌, ◌≢◌, ◌⊎◌, ℕ, ◌+◌, ◌<◌, ◌≤◌, ◌==◌, ◌&&◌, Bool, true, false, List, [], ◌∷◌}
use Rattle.std.specs.List.{AllByRecursion}
use Rattle.ds_base.specs.declared.names.Sizes.{Sizes}
use Rattle.ds_model.specs.declared.log.LogRecord.{LogRecord}
use Rattle.ds_model.specs.declared.log.RowChange.{RowChange}
use Rattle.ds_model.specs.Rows.{Spot}
use Rattle.facility.specs.Commands.{Executes}
use Rattle.facility.specs.States.{Held as Facility}
use Rattle.facility.specs.declared.command.Command.{Command}
use Rattle.facility.specs.declared.command.Reply.{Reply}
use Rattle.log_rows.specs.Rows.{has_changed, is_closed}
use Rattle.member_intents.specs.declared.intent.Intent.{Intent}
use Rattle.member_intents.specs.declared.outcome.Answered.{Answered}
use Rattle.member_intents.specs.declared.outcome.Sent.{Sent}
use Rattle.member_trans.specs.declared.fate.Change.{Change}
use Rattle.member_trans.specs.declared.fate.Owner.{Owner}
use Rattle.member_trans.specs.declared.fate.Owner.TheVariants as owner
use Rattle.member_trans.specs.Trans.{TransState, TranState, is_forward, is_free, is_undoing, tran_at}
use Rattle.member_marks.specs.Local.{Reaches}
use Rattle.member_marks.specs.Rollbacks.{after_adopt}
use Rattle.member_marks.specs.State.{MarksState, tran_of}
use Rattle.member_effects.specs.Puts.{event_records}
use Rattle.member_resources.specs.Events.{Happens, World}
use Rattle.member_resources.specs.Held.{Held, IsNew, begun}

-- ---- how many transactions the log names by a number, which is that of their first record

abbrev pub one_if : Bool → ℕ
one_if true = 1
one_if false = 0

abbrev pub named_among : List TranState → ℕ → ℕ
named_among [] id = 0
named_among (t ∷ ts) id = one_if (t.first == id) + named_among ts id

-- of the slots and of the rollbacks
abbrev pub named_in : TransState → ℕ → ℕ
named_in t id = named_among t.slots id + named_among t.rollbacks id

-- one that isn't there has no name
abbrev pub NamesNone : TranState → Type 0
NamesNone t = is_free t.stage ≡ true → t.first ≡ 0

-- No number in the log, on disk or in the buffer, is above the counter, and none that names a transaction; no number names two; and a slot without a
-- transaction has no name.
pub record AreCounted (counter : ℕ) (s : MarksState) : Type 0 where
  pub last : s.log.last ≤ counter
  pub stable : s.log.stable ≤ counter
  pub below : (id : ℕ) → counter < id → named_in s.trans id ≡ 0
  pub once : (id : ℕ) → id ≢ 0 → named_in s.trans id ≤ 1
  pub free : (slot : ℕ) → NamesNone (tran_at s.trans slot)

-- ---- so it is of a member that holds nothing, and no event of it changes that; nor does the counter fall

abbrev pub CountedBegin : Type 0
CountedBegin = (counter member : ℕ) (sizes : Sizes) (h : Held) → IsNew member sizes h → AreCounted counter h.marks

pub record StillCounted (before after : Facility) (s : MarksState) : Type 0 where
  pub rises : before.counter ≤ after.counter
  pub counted : AreCounted after.counter s

abbrev pub CountedStay : Type 0
CountedStay = (w v : World) (h k : Held) (i : Intent) (place : ℕ) (sent : Sent) (a : Answered)
    → Happens w h i place sent a v k → AreCounted w.facility.counter h.marks → StillCounted w.facility v.facility k.marks

-- nor do local moves, and numbers that others draw
abbrev pub CountedReach : Type 0
CountedReach = (counter : ℕ) (s t : MarksState) → Reaches s t → AreCounted counter s → AreCounted counter t

abbrev pub CountedMore : Type 0
CountedMore = (counter more : ℕ) (s : MarksState) → counter ≤ more → AreCounted counter s → AreCounted more s

-- nor does a rollback that is adopted by a number at or below the counter, where no slot has a transaction
abbrev pub SlotsAreFree : MarksState → Type 0
SlotsAreFree s = (slot : ℕ) → is_free (tran_at s.trans slot).stage ≡ true

abbrev pub CountedAdopt : Type 0
CountedAdopt = (counter : ℕ) (s : MarksState) (id by : ℕ) (changes : List Change) (undone : List RowChange)
    → id ≤ counter → SlotsAreFree s → AreCounted counter s → AreCounted counter (after_adopt s id by changes undone)

-- ---- no command of any member lets the counter fall

abbrev pub CommandsCount : Type 0
CommandsCount = (f g : Facility) (m : ℕ) (c : Command) (page after : List ℕ) (answer : Reply) → Executes f m c page answer g after → f.counter ≤ g.counter

-- ---- how many transactions of slots go forward, by their name in the log

abbrev pub forward_among : List TranState → ℕ → ℕ
forward_among [] id = 0
forward_among (t ∷ ts) id = one_if (is_forward t.stage && (t.first == id)) + forward_among ts id

abbrev pub forward_in : TransState → ℕ → ℕ
forward_in t id = forward_among t.slots id

-- an event lets none go forward that didn't, but under the number that it draws; and local moves let none
abbrev pub ForwardStay : Type 0
ForwardStay = (w v : World) (h k : Held) (i : Intent) (place : ℕ) (sent : Sent) (a : Answered)
    → Happens w h i place sent a v k → (id : ℕ) → id ≢ 0 → id ≤ w.facility.counter → forward_in k.marks.trans id ≤ forward_in h.marks.trans id

abbrev pub ForwardReach : Type 0
ForwardReach = (s t : MarksState) → Reaches s t → (id : ℕ) → id ≢ 0 → forward_in t.trans id ≤ forward_in s.trans id

-- Records that an event puts, between these numbers of the counter, and these marks: no number of a transaction in them is above the counter. Those
-- that change a row name a transaction that goes forward, or one by a number that was drawn; and what they close doesn't go forward behind them.
pub record RecordsName (before after : ℕ) (s t : MarksState) (records : List LogRecord) : Type 0 where
  pub below : AllByRecursion (λ (r : LogRecord). r.tran ≤ after) records
  pub changed : (id : ℕ) (spot : Spot) → id ≢ 0 → has_changed records id spot ≡ true → (before < id) ⊎ (1 ≤ forward_in s.trans id)
  pub closed : (id : ℕ) → id ≢ 0 → is_closed records id ≡ true → forward_in t.trans id ≡ 0

abbrev pub RecordsAreNamed : Type 0
RecordsAreNamed = (w v : World) (h k : Held) (i : Intent) (place : ℕ) (sent : Sent) (a : Answered)
    → (happens : Happens w h i place sent a v k) → AreCounted w.facility.counter h.marks
    → RecordsName w.facility.counter v.facility.counter h.marks k.marks (event_records (begun happens.ready place).marks i happens.plan a)

-- ---- owners whose transactions have one name are the same

abbrev pub NamesApart : Type 0
NamesApart = (counter : ℕ) (s : MarksState) (o q : Owner) → AreCounted counter s → (tran_of s o).first ≢ 0 → (tran_of s o).first ≡ (tran_of s q).first → o ≡ q

-- a rollback is named by the number that is its own
abbrev pub RollbacksNamed : Type 0
RollbacksNamed = (s : MarksState) (id : ℕ) → is_undoing (tran_of s (owner.Rollback id)).stage ≡ true → (tran_of s (owner.Rollback id)).first ≡ id
