-- A member that has nothing in hand puts no record.
use Rattle.std.proofs.Common.{◌≡◌, ℕ, refl, sym, ◌∙◌, ap, Bool, true, false, List, [], Result, Ok, Err}
use Rattle.std.specs.Prelude.{◌&&◌}
use Rattle.ds_model.specs.declared.log.LogRecord.{LogRecord}
use Rattle.facility.specs.declared.command.Reply.{Reply}
use Rattle.member_trans.specs.declared.fate.Stage.{Stage}
use Rattle.member_trans.specs.declared.fate.Stage.TheVariants as stage
use Rattle.member_trans.specs.Trans.{is_forward, is_free}
use Rattle.member_marks.specs.State.{MarksState, slot_tran}
use Rattle.member_intents.specs.declared.intent.Intent.{Intent}
use Rattle.member_intents.specs.declared.intent.Intent.TheVariants as intent
use Rattle.member_intents.specs.declared.outcome.Answered.{Answered}
use Rattle.member_intents.specs.declared.outcome.Answered.TheVariants as answered
use Rattle.member_intents.specs.declared.outcome.Sent.{Sent}
use Rattle.member_intents.specs.declared.test.Test.{Test}
use Rattle.member_needs.specs.declared.needs.Setting.{Setting}
use Rattle.member_needs.specs.declared.plans.Plan.{Plan}
use Rattle.member_needs.specs.Needs.{need_of}
use Rattle.member_needs.specs.Plans.{intent_plan}
use Rattle.member_needs.specs.Records.{change_page}
use Rattle.member_effects.specs.Puts.{event_records, reply_records}
use Rattle.member_resources.specs.declared.prepared.Prepared.{Prepared}
use Rattle.member_resources.specs.Events.{holder_in}
use Rattle.member_resources.specs.Held.{Held, begun}
use Rattle.member_resources.specs.Prepared.{needed, setting_of}
use Rattle.needs_law.specs.Lawful.{Lawful, SendsLawfully}
use Rattle.put_records.specs.Puts.{is_append, is_done, pending_after}
use Rattle.put_records.specs.Resting.{HasNothing, LocalsLeave, NothingIsPut, NothingWaits}
use Rattle.put_records.proofs.Events.{events_put}
use Rattle.put_records.proofs.Locals.{reach_stays}

never : true ≡ false → ⊥
never e = cc

not_both : (x : Stage) → is_free x ≡ true → is_forward x ≡ true → ⊥
not_both stage.Free a b = cc
not_both stage.Forward a b = cc
not_both stage.Drawn a b = cc
not_both stage.Decided a b = cc
not_both stage.Undoing a b = cc
not_both stage.Postponed a b = cc

-- ---- what is sent passed its tests
abbrev sent_in : Result Prepared Test → Result Sent Test
sent_in (Ok x) = Ok x.sent
sent_in (Err test) = Err test

needs_sent : (x : Result Sent Test) (y : Result Plan Test) (s : Sent) (p : Plan) → needed x y ≡ Ok (record { sent = s; plan = p }) → x ≡ Ok s
needs_sent (Err test) y s p e = absurd cc
needs_sent (Ok t) (Err test) s p e = absurd cc
needs_sent (Ok t) (Ok q) s p e = ap sent_in e

-- ---- those that put records aren't lawful
reply_none : (h : Held) (begins : MarksState) (c : Setting) (i : Intent) (s : Sent) (p : Plan) (answer : Reply) → Lawful h.marks h.pages c i s → HasNothing h.marks → reply_records begins i p answer ≡ []
reply_none h begins c (intent.Change slot action frames) s p answer lawful none = absurd (not_both (slot_tran h.marks slot).stage (none.free slot) lawful.may.forward)
reply_none h begins c (intent.Undo o at) s p answer lawful none = absurd (never (sym lawful.holds.claimed ∙ none.unclaimed (change_page lawful.newest.change)))
reply_none h begins c (intent.Commit slot) s p answer lawful none = absurd (not_both (slot_tran h.marks slot).stage (none.free slot) lawful.may.forward)
reply_none h begins c _ s p answer lawful none = refl

event_none : (h : Held) (begins : MarksState) (c : Setting) (i : Intent) (s : Sent) (p : Plan) (a : Answered) → Lawful h.marks h.pages c i s → HasNothing h.marks → event_records begins i p a ≡ []
event_none h begins c i s p answered.None lawful none = refl
event_none h begins c i s p (answered.Reply answer) lawful none = reply_none h begins c i s p answer lawful none
event_none h begins c i s p answered.Done lawful none = refl
event_none h begins c i s p answered.Failed lawful none = refl

pub nothing_put : SendsLawfully → NothingIsPut
nothing_put law w v h k i place s a happens none =
    let c : Setting = setting_of h (holder_in w.facility h.cast) place in
    let lawful : Lawful h.marks h.pages c i s = law h.marks h.pages c i s (needs_sent (need_of h.marks h.pages c i) (intent_plan h.marks h.pages h.limit i) s happens.plan happens.lawful) in
    event_none h (begun happens.ready place).marks c i s happens.plan a lawful none

-- ---- the buffer
left : (b : Bool) (pending : List ℕ) → pending ≡ [] → pending_after b pending [] ≡ []
left true pending e = refl
left false pending e = ap (λ (z : List ℕ). pending_after false z []) e

pub nothing_waits : SendsLawfully → NothingWaits
nothing_waits law w v h k i place s a happens none e =
    events_put w v h k i place s a happens
    ∙ ap (λ (z : List LogRecord). pending_after (is_done a && is_append i) h.marks.log.pending z) (nothing_put law w v h k i place s a happens none)
    ∙ left (is_done a && is_append i) h.marks.log.pending e

pub locals_leave : LocalsLeave
locals_leave s t r = (reach_stays s t r).log
