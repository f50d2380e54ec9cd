-- The number of an event that draws one stands in a record, and on the pages of the change.
use Rattle.std.proofs.Common.{◌≡◌, ◌≢◌, ℕ, sym, ap, subst, ◌∙◌, true, List, [], ◌∷◌, Option, Some, Ok}
use Rattle.std.specs.Prelude.{IfSome}
use Rattle.std.specs.List.{AllByRecursion}
use Rattle.ds_base.specs.Pages.{heap_page}
use Rattle.ds_base.specs.declared.names.Place.{Place}
use Rattle.ds_model.specs.RecordBytes.{IsAllowed}
use Rattle.log_record.specs.Changes.{inverse}
use Rattle.page_plans.specs.Plans.{plan_of}
use Rattle.page_plans.specs.declared.action.Action.{Action}
use Rattle.page_plans.specs.declared.action.Action.TheVariants as action
use Rattle.facility.specs.Counting.{first_stale, given}
use Rattle.facility.specs.declared.command.Command.{Command}
use Rattle.facility.specs.declared.command.Command.TheVariants as command
use Rattle.facility.specs.declared.command.Reply.{Reply}
use Rattle.facility.specs.declared.command.Reply.TheVariants as reply
use Rattle.member_intents.specs.declared.intent.Frames.{Frames}
use Rattle.member_intents.specs.declared.intent.Intent.{Intent}
use Rattle.member_intents.specs.declared.intent.Intent.TheVariants as intent
use Rattle.member_intents.specs.declared.outcome.Answered.{Answered}
use Rattle.member_intents.specs.declared.outcome.Answered.TheVariants as answered
use Rattle.member_intents.specs.declared.outcome.Sent.{Sent}
use Rattle.member_intents.specs.declared.outcome.Sent.TheVariants as sent
use Rattle.member_trans.specs.declared.fate.Change.{Change}
use Rattle.member_trans.specs.declared.fate.Owner.{Owner}
use Rattle.member_trans.specs.Trans.{TranState, newest_of}
use Rattle.member_marks.specs.Records.{may_undo_as}
use Rattle.member_marks.specs.State.{tran_of}
use Rattle.member_needs.specs.declared.plans.Plan.{Plan}
use Rattle.member_needs.specs.declared.plans.Plan.TheVariants as plan
use Rattle.member_needs.specs.Needs.{need_of}
use Rattle.member_needs.specs.Plans.{change_plan, intent_plan, system_with}
use Rattle.member_needs.specs.Records.{change_page, frame_of, indexes_of, page_of}
use Rattle.member_effects.specs.Puts.{event_records}
use Rattle.needs_law.specs.Lawful.{Changes, SendsLawfully, Undoes}
use Rattle.member_resources.specs.Events as event
use Rattle.member_resources.specs.Events.{Happens, Runs, RunsCommand, holder_in}
use Rattle.member_resources.specs.Held.{Held, begun}
use Rattle.member_resources.specs.Prepared.{setting_of, with_change_room}
use Rattle.member_resources.specs.Settled.{kept_of}
use Rattle.member_effects.specs.declared.told.Told.{Told}
use Rattle.page_protocol.specs.Moves.{World}
use Rattle.page_world.specs.Numbers.{AreNumbered}
use Rattle.page_world.specs.Holdings.{Holdings}
use Rattle.page_intents.specs.Frames.{Begins}
use Rattle.page_intents.specs.Stands.{IsUp}
use Rattle.page_events.specs.Events.{IsRecorded}
use Rattle.page_events.proofs.Begun.{changes_on, undoes_on}
use Rattle.page_numbers.specs.Numbers.{BackShows, PatchesShow, RowShows}
use Rattle.page_numbers.specs.Recorded.{AreWhole, IsShort, MayPut, MayPutBack, NumbersAreRecorded}
use Rattle.page_numbers.proofs.Drawn.{IsNext, back_put, drawn_next, has_room, row_put, same_tran, system_lies, undo_next}
use Rattle.page_numbers.proofs.Framed.{all_held, has_page, nth_holds}
use Rattle.page_numbers.proofs.Planned.{back_made, needs_plan, needs_sent, row_change, row_made, system_made}
use Rattle.page_numbers.proofs.Rows.{framed}
use Rattle.page_numbers.proofs.Sizes.{has_slot, row_at, row_short}

-- what the crates below, and this one, say
pub record Facts : Type 0 where
  pub lawful : SendsLawfully
  pub numbers : AreNumbered
  pub row : RowShows
  pub back : BackShows
  pub patches : PatchesShow

-- ---- the number
-- the reply to the command that was sent
replied : (u v : event.World) (h k : Held) (i : Intent) (s : Sent) (c : Command) (p : Plan) (place : ℕ) (a : Answered) (told : Told) → s ≡ sent.Command c → Runs u h i s p place a told v k → RunsCommand u.facility h i c p place a told v.facility k
replied u v h k i s c p place a told is r = (subst (λ z. Runs u h i z p place a told v k) is r).0

abbrev reply_in : Answered → Reply
reply_in answered.None = reply.Done
reply_in (answered.Reply r) = r
reply_in answered.Done = reply.Done
reply_in answered.Failed = reply.Done

same_reply : (a : Answered) (r x : Reply) → a ≡ answered.Reply r → a ≡ answered.Reply x → r ≡ x
same_reply a r x e f = ap reply_in (sym e ∙ f)

drawn_by : (u v : event.World) (h k : Held) (i : Intent) (s : Sent) (frames : Frames) (p : Plan) (place : ℕ) (a : Answered) (told : Told) (number : ℕ)
    → s ≡ sent.Command (command.Draw (indexes_of frames)) → Runs u h i s p place a told v k → a ≡ answered.Reply (reply.Drawn number) → IsNext number
drawn_by u v h k i s frames p place a told number is r e =
    let run = replied u v h k i s (command.Draw (indexes_of frames)) p place a told is r in
    drawn_next (first_stale u.facility.directory h.marks.member (given (indexes_of frames))) u.facility.counter number
    (sym run.gives.executed.executes.0.0 ∙ same_reply a run.answer (reply.Drawn number) run.is e)

undone_by : (u v : event.World) (h k : Held) (i : Intent) (s : Sent) (at : ℕ) (p : Plan) (place : ℕ) (a : Answered) (told : Told) (number : ℕ)
    → s ≡ sent.Command (command.DrawUndo (record { count = 1; at = at ∷ 0 ∷ 0 ∷ [] })) → Runs u h i s p place a told v k → a ≡ answered.Reply (reply.Drawn number) → IsNext number
undone_by u v h k i s at p place a told number is r e =
    let run = replied u v h k i s (command.DrawUndo (record { count = 1; at = at ∷ 0 ∷ 0 ∷ [] })) p place a told is r in
    undo_next (first_stale u.facility.directory h.marks.member (given (record { count = 1; at = at ∷ 0 ∷ 0 ∷ [] }))) u.facility.counter number run.gives.can.1
    (sym run.gives.executed.executes.0.0 ∙ same_reply a run.answer (reply.Drawn number) run.is e)

-- ---- the member as the event finds it
up_now : (w : World) (g : Holdings) (content : ℕ → ℕ → List ℕ) (forced : ℕ → ℕ) (h k : Held) → Begins w g content forced (kept_of h) → IsUp g forced (kept_of k) → Begins w g content forced (kept_of k)
up_now w g content forced h k b up = record { good = b.good; tied = b.tied; numbered = b.numbered; sound = b.sound; up = up }

begins_on : (w : World) (g : Holdings) (content : ℕ → ℕ → List ℕ) (forced : ℕ → ℕ) (h : Held) (place : ℕ) → Begins w g content forced (kept_of h) → Begins w g content forced (kept_of (begun h place))
begins_on w g content forced h place b = up_now w g content forced h (begun h place) b (record {
  least = b.up.least;
  among = b.up.among;
  up = b.up.up;
  log = b.up.log;
  last = b.up.last;
  pending = b.up.pending;
  apart = b.up.apart;
  each = b.up.each;
  copies = b.up.copies;
  owns = b.up.owns;
  no_more = b.up.no_more;
})

begins_room : (w : World) (g : Holdings) (content : ℕ → ℕ → List ℕ) (forced : ℕ → ℕ) (h : Held) (slot : ℕ) → Begins w g content forced (kept_of h) → Begins w g content forced (kept_of (with_change_room h slot))
begins_room w g content forced h slot b = up_now w g content forced h (with_change_room h slot) b (record {
  least = b.up.least;
  among = b.up.among;
  up = b.up.up;
  log = b.up.log;
  last = b.up.last;
  pending = b.up.pending;
  apart = b.up.apart;
  each = b.up.each;
  copies = b.up.copies;
  owns = b.up.owns;
  no_more = b.up.no_more;
})

module _ (facts : Facts) (w : World) (g : Holdings) (content : ℕ → ℕ → List ℕ) (forced : ℕ → ℕ) (h : Held) (place number : ℕ) (b : Begins w g content forced (kept_of h)) (whole : AreWhole w content) (next : IsNext number) where
  -- ---- a change
  module _ (slot : ℕ) (frames : Frames) where
    abbrev now : Held
    now = begun (with_change_room h slot) place

    here : Begins w g content forced (kept_of now)
    here = begins_on w g content forced (with_change_room h slot) place (begins_room w g content forced h slot b)

    abbrev Recorded : Action → Plan → Type 0
    Recorded act p = IsRecorded now (intent.Change slot act frames) p number place

    abbrev Allowed : Action → Plan → Type 0
    Allowed act p = AllByRecursion IsAllowed (event_records now.marks (intent.Change slot act frames) p (answered.Reply (reply.Drawn number)))

    -- of the system
    system_recorded : (act : Action) (out : Sent) (p : Plan) → Changes h.marks h.pages h.limit slot act frames out
        → system_with h.marks (plan_of act h.limit (page_of h.pages frames 0) (page_of h.pages frames 1) (page_of h.pages frames 2)) ≡ Ok p → Allowed act p → Recorded act p
    system_recorded act out p lawful planned allowed =
        let it = system_made h.marks (plan_of act h.limit (page_of h.pages frames 0) (page_of h.pages frames 1) (page_of h.pages frames 2)) p planned in
        let put : Allowed act (plan.System it.patches) = subst (λ z. Allowed act z) (sym it.is) allowed in
        subst (λ z. Recorded act z) it.is (
          tt,
          facts.patches (kept_of now) slot frames it.patches number place
              (all_held facts.numbers w g content forced (kept_of now) h.pages h.limit slot act frames out it.patches (page_of h.pages frames 1) (page_of h.pages frames 2) here whole (changes_on h place h.limit slot act frames out lawful) it.some)
              (system_lies now.marks.log it.patches number it.room put) next.small,
        )

    -- of a row
    row_recorded : (table key : ℕ) (at : Place) (after : Option (List ℕ)) (out : Sent) (p : Plan) → Changes h.marks h.pages h.limit slot (action.RowChange table key at after) frames out
        → change_plan h.marks h.pages h.limit (action.RowChange table key at after) frames ≡ Ok p → MayPut p → Recorded (action.RowChange table key at after) p
    row_recorded table key at after out p lawful planned may =
        let act = action.RowChange table key at after in
        let it = row_made h.marks table key at after (page_of h.pages frames 0) p planned may in
        let c = row_change table key at after it.page in
        let lies = row_at (heap_page table at.page) at.slot key it.page it.sound in
        let before : IsShort c.before = row_short it.page at.slot lies.sound in
        let short : IsShort after = subst MayPut (sym it.is) may in
        let still = changes_on h place h.limit slot act frames out lawful in
        subst (λ z. Recorded act z) it.is (
          row_put now.marks slot number c next.some lies.behind lies.below before short (has_room h slot place lawful.may.forward) it.room,
          facts.row (kept_of now) slot frames c number place
              (λ q e. let nth = nth_holds now.marks (frame_of frames 0) (Some (heap_page table at.page)) q (framed (frame_of frames 0) q e) still.holds.first in
              has_page facts.numbers w g content forced (kept_of now) here whole q nth.page nth.holds) (has_slot c lies.below short) next.small,
        )

    change_recorded : (act : Action) (out : Sent) (p : Plan) → Changes h.marks h.pages h.limit slot act frames out → change_plan h.marks h.pages h.limit act frames ≡ Ok p → MayPut p → Allowed act p → Recorded act p
    change_recorded (action.RowChange table key at after) out p lawful planned may allowed = row_recorded table key at after out p lawful planned may
    change_recorded (action.FormatIndex table) out p lawful planned may allowed = system_recorded (action.FormatIndex table) out p lawful planned allowed
    change_recorded (action.FormatHeap table) out p lawful planned may allowed = system_recorded (action.FormatHeap table) out p lawful planned allowed
    change_recorded (action.GiveSlot table key leaf) out p lawful planned may allowed = system_recorded (action.GiveSlot table key leaf) out p lawful planned allowed
    change_recorded (action.Split table left) out p lawful planned may allowed = system_recorded (action.Split table left) out p lawful planned allowed
    change_recorded (action.BranchEntry table branch low child) out p lawful planned may allowed = system_recorded (action.BranchEntry table branch low child) out p lawful planned allowed

  -- ---- a change is taken back
  undo_recorded : (o : Owner) (at : ℕ) (out : Sent) (p : Plan) → Undoes h.marks o at out → intent_plan h.marks h.pages h.limit (intent.Undo o at) ≡ Ok p → MayPutBack (tran_of h.marks o) p
      → IsRecorded (begun h place) (intent.Undo o at) p number place
  undo_recorded o at out p lawful planned may =
      let k = begun h place in
      let here = begins_on w g content forced h place b in
      let still = undoes_on h place o at out lawful in
      let c = lawful.newest.change in
      let has = has_page facts.numbers w g content forced (kept_of k) here whole at (change_page still.newest.change) still.holds in
      let it = back_made h.pages at (newest_of (tran_of h.marks o)) lawful.newest p lawful.stands has.within planned may.undamaged in
      let lies = row_at (heap_page c.table c.place.page) c.place.slot c.key it.page it.sound in
      let short : IsShort c.before × IsShort c.after = subst (λ z. IfSome z (λ (x : Change). IsShort x.change.before × IsShort x.change.after)) lawful.stands may.short in
      let named : (tran_of k.marks o).first ≢ 0 = λ z. may.named (ap (λ (t : TranState). t.first) (sym (same_tran h place o)) ∙ z) in
      let stands : newest_of (tran_of k.marks o) ≡ Some lawful.newest = ap newest_of (same_tran h place o) ∙ lawful.stands in
      let put : may_undo_as k.marks o number (newest_of (tran_of k.marks o)) ≡ true =
      ap (may_undo_as k.marks o number) stands ∙ back_put k.marks.log (tran_of k.marks o) number lawful.newest named lies.behind lies.below short.0 short.1 lawful.room in
      subst (λ z. IsRecorded k (intent.Undo o at) z number place) it.is
      (put, facts.back (kept_of k) o at (inverse c) number place has (has_slot (inverse c) lies.below short.0) next.small)

-- ---- any event
module _ (facts : Facts) (w : World) (u v : event.World) (g : Holdings) (content : ℕ → ℕ → List ℕ) (forced : ℕ → ℕ) (h k : Held) (place : ℕ) (out : Sent) (a : Answered) (number : ℕ) (b : Begins w g content forced (kept_of h)) (whole : AreWhole w content) where
  changed : (slot : ℕ) (act : Action) (frames : Frames) → (x : Happens u h (intent.Change slot act frames) place out a v k) → MayPut x.plan → a ≡ answered.Reply (reply.Drawn number) → IsRecorded (begun x.ready place) (intent.Change slot act frames) x.plan number place
  changed slot act frames x may e =
      let i = intent.Change slot act frames in
      let need = need_of h.marks h.pages (setting_of h (holder_in u.facility h.cast) place) i in
      let lawful = facts.lawful h.marks h.pages (setting_of h (holder_in u.facility h.cast) place) i out (needs_sent need (intent_plan h.marks h.pages h.limit i) out x.plan x.lawful) in
      let planned = needs_plan need (intent_plan h.marks h.pages h.limit i) out x.plan x.lawful in
      let next = drawn_by u v (begun x.ready place) x.after i out frames x.plan place a x.said number lawful.is x.runs e in
      let allowed = subst (λ z. AllByRecursion IsAllowed (event_records (begun z place).marks i x.plan a)) x.reserves x.allowed in
      let told = subst (λ z. AllByRecursion IsAllowed (event_records (begun (with_change_room h slot) place).marks i x.plan z)) e allowed in
      subst (λ z. IsRecorded (begun z place) i x.plan number place) (sym x.reserves)
      (change_recorded facts w g content forced h place number b whole next slot frames act out x.plan lawful planned may told)

  taken_back : (o : Owner) (at : ℕ) → (x : Happens u h (intent.Undo o at) place out a v k) → MayPutBack (tran_of h.marks o) x.plan → a ≡ answered.Reply (reply.Drawn number) → IsRecorded (begun x.ready place) (intent.Undo o at) x.plan number place
  taken_back o at x may e =
      let i = intent.Undo o at in
      let need = need_of h.marks h.pages (setting_of h (holder_in u.facility h.cast) place) i in
      let lawful = facts.lawful h.marks h.pages (setting_of h (holder_in u.facility h.cast) place) i out (needs_sent need (intent_plan h.marks h.pages h.limit i) out x.plan x.lawful) in
      let planned = needs_plan need (intent_plan h.marks h.pages h.limit i) out x.plan x.lawful in
      let next = undone_by u v (begun x.ready place) x.after i out at x.plan place a x.said number lawful.is x.runs e in
      subst (λ z. IsRecorded (begun z place) i x.plan number place) (sym x.reserves)
      (undo_recorded facts w g content forced h place number b whole next o at out x.plan lawful planned may)

pub numbers_recorded : Facts → NumbersAreRecorded
numbers_recorded facts w u v g content forced h k intent.Step place out a number b whole x tells e = tt
numbers_recorded facts w u v g content forced h k (intent.Obtain o n m) place out a number b whole x tells e = tt
numbers_recorded facts w u v g content forced h k (intent.Grant o n m) place out a number b whole x tells e = tt
numbers_recorded facts w u v g content forced h k (intent.Ask o to n m) place out a number b whole x tells e = tt
numbers_recorded facts w u v g content forced h k (intent.Answers o n m asked) place out a number b whole x tells e = tt
numbers_recorded facts w u v g content forced h k (intent.Status member) place out a number b whole x tells e = tt
numbers_recorded facts w u v g content forced h k (intent.Take past) place out a number b whole x tells e = tt
numbers_recorded facts w u v g content forced h k (intent.Answer asker n m) place out a number b whole x tells e = tt
numbers_recorded facts w u v g content forced h k (intent.ReleaseLock o) place out a number b whole x tells e = tt
numbers_recorded facts w u v g content forced h k (intent.ReleasePage page) place out a number b whole x tells e = tt
numbers_recorded facts w u v g content forced h k (intent.Purge n) place out a number b whole x tells e = tt
numbers_recorded facts w u v g content forced h k (intent.End o) place out a number b whole x tells e = tt
numbers_recorded facts w u v g content forced h k (intent.Wait slot by flag) place out a number b whole x tells e = tt
numbers_recorded facts w u v g content forced h k (intent.Unwait slot) place out a number b whole x tells e = tt
numbers_recorded facts w u v g content forced h k (intent.Waits slots) place out a number b whole x tells e = tt
numbers_recorded facts w u v g content forced h k (intent.Flag flag) place out a number b whole x tells e = tt
numbers_recorded facts w u v g content forced h k (intent.Raise flag) place out a number b whole x tells e = tt
numbers_recorded facts w u v g content forced h k intent.LoseCache place out a number b whole x tells e = tt
numbers_recorded facts w u v g content forced h k (intent.Read at) place out a number b whole x tells e = tt
numbers_recorded facts w u v g content forced h k (intent.ReadPage at) place out a number b whole x tells e = tt
numbers_recorded facts w u v g content forced h k (intent.Test at slot gives) place out a number b whole x tells e = tt
numbers_recorded facts w u v g content forced h k (intent.WritePage at) place out a number b whole x tells e = tt
numbers_recorded facts w u v g content forced h k (intent.Unregister at) place out a number b whole x tells e = tt
numbers_recorded facts w u v g content forced h k (intent.Change slot act frames) place out a number b whole x tells e = changed facts w u v g content forced h k place out a number b whole slot act frames x tells e
numbers_recorded facts w u v g content forced h k (intent.Undo o at) place out a number b whole x tells e = taken_back facts w u v g content forced h k place out a number b whole o at x tells e
numbers_recorded facts w u v g content forced h k (intent.Commit slot) place out a number b whole x tells e = tt
numbers_recorded facts w u v g content forced h k intent.Append place out a number b whole x tells e = tt
numbers_recorded facts w u v g content forced h k (intent.NextChanged past) place out a number b whole x tells e = tt
numbers_recorded facts w u v g content forced h k (intent.CastoutRead page) place out a number b whole x tells e = tt
numbers_recorded facts w u v g content forced h k intent.CastoutWrite place out a number b whole x tells e = tt
numbers_recorded facts w u v g content forced h k intent.CastoutDone place out a number b whole x tells e = tt
numbers_recorded facts w u v g content forced h k intent.PhaseDone place out a number b whole x tells e = tt
