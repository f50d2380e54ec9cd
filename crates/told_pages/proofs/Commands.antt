-- What an event sends, and the counter behind it.
use Rattle.std.proofs.Common.{◌≡◌, ℕ, ◌+◌, refl, sym, ap, ◌∙◌, Bool, true, false, inl, inr, List, [], Option, Some, None}
use Rattle.std.specs.Prelude.{◌⊎◌, ◌==◌, if◌then◌else◌, nat_lt}
use Rattle.std.proofs.lemmas.Bool.{cond-true, cond-false, false≢true}
use Rattle.ds_model.specs.declared.lock.Name.{Name}
use Rattle.ds_model.specs.declared.log.LogRecord.{LogRecord}
use Rattle.lock_names.specs.declared.mode.Mode.{Mode}
use Rattle.list_structure.specs.declared.query.Asker.{Asker}
use Rattle.list_structure.specs.declared.query.CellAnswer.{CellAnswer}
use Rattle.facility.specs.declared.command.Command.{Command}
use Rattle.facility.specs.declared.command.Command.TheVariants as command
use Rattle.facility.specs.declared.command.Reply.{Reply}
use Rattle.facility.specs.declared.command.Reply.TheVariants as reply
use Rattle.facility.specs.Commands.{Executes}
use Rattle.facility.specs.Counting.{counter_after, draw_reply, drawn, drawn_to, first_stale, given, limit}
use Rattle.facility.specs.ListCommands.{AnswersQuery}
use Rattle.facility.specs.States.{Held as Facility}
use Rattle.member_intents.specs.declared.intent.Intent.{Intent}
use Rattle.member_intents.specs.declared.intent.Intent.TheVariants as intent
use Rattle.member_intents.specs.declared.outcome.Answered.{Answered}
use Rattle.member_intents.specs.declared.outcome.Answered.TheVariants as answered
use Rattle.member_intents.specs.declared.outcome.Sent.{Sent}
use Rattle.member_intents.specs.declared.outcome.Sent.TheVariants as sent
use Rattle.member_marks.specs.State.{MarksState, id_of}
use Rattle.member_needs.specs.Castout.{done}
use Rattle.member_needs.specs.declared.needs.Setting.{Setting}
use Rattle.member_needs.specs.declared.plans.Plan.{Plan}
use Rattle.member_effects.specs.declared.told.Told.{Told}
use Rattle.member_effects.specs.Puts.{drawn_by, event_records, reply_records}
use Rattle.member_resources.specs.Held.{Held}
use Rattle.member_resources.specs.Events as event
use Rattle.member_resources.specs.Events.{Runs}
use Rattle.needs_law.specs.Lawful.{Lawful}
use Rattle.put_records.specs.Puts.{is_append}

-- ---- a command and the counter
abbrev pub draws : Command → Bool
draws (command.Draw indexes) = true
draws (command.DrawUndo indexes) = true
draws _ = false

abbrev pub is_drawn_reply : Reply → Bool
is_drawn_reply (reply.Drawn n) = true
is_drawn_reply _ = false

-- one that draws a number answers with the next, or with none, and then the counter stays
abbrev Counts : Bool → Facility → Facility → Reply → Type 0
Counts true f g answer = ((answer ≡ reply.Drawn (f.counter + 1)) × (g.counter ≡ f.counter + 1)) ⊎ ((is_drawn_reply answer ≡ false) × (g.counter ≡ f.counter))
Counts false f g answer = g.counter ≡ f.counter

same : (f g x : Facility) → g ≡ x → x.counter ≡ f.counter → g.counter ≡ f.counter
same f g x e c = ap (λ (z : Facility). z.counter) e ∙ c

answer_counts : (f g : Facility) (m : ℕ) (asker : Asker) (n : Name) (mode : Mode) (said : CellAnswer) (event : ℕ) (answer : Reply) → AnswersQuery f m asker n mode said event answer g → g.counter ≡ f.counter
answer_counts f g m asker n mode said event reply.Done e = same f g _ e.1.1 refl
answer_counts f g m asker n mode said event reply.Gone e = same f g _ e.1 refl
answer_counts f g m asker n mode said event _ e = absurd e

draw_counts : (o : Option ℕ) (f g : Facility) (answer : Reply) → answer ≡ draw_reply o f.counter → g ≡ record f { counter = drawn_to o f.counter } → Counts true f g answer
draw_counts (Some i) f g answer a e = inr (ap is_drawn_reply a, ap (λ (z : Facility). z.counter) e)
draw_counts None f g answer a e = by (nat_lt f.counter limit) refl
  where
    by : (b : Bool) → nat_lt f.counter limit ≡ b → Counts true f g answer
    by true l = inl (a ∙ cond-true (nat_lt f.counter limit) (reply.Drawn (f.counter + 1)) (reply.LrsnEnd f.counter) l, ap (λ (z : Facility). z.counter) e ∙ cond-true (nat_lt f.counter limit) (f.counter + 1) f.counter l)
    by false l = inr (ap is_drawn_reply (a ∙ cond-false (nat_lt f.counter limit) (reply.Drawn (f.counter + 1)) (reply.LrsnEnd f.counter) l), ap (λ (z : Facility). z.counter) e ∙ cond-false (nat_lt f.counter limit) (f.counter + 1) f.counter l)

undo_counts : (o : Option ℕ) (f g : Facility) (answer : Reply) → answer ≡ drawn o f.counter → g ≡ record f { counter = counter_after o f.counter } → Counts true f g answer
undo_counts (Some i) f g answer a e = inr (ap is_drawn_reply a, ap (λ (z : Facility). z.counter) e)
undo_counts None f g answer a e = inl (a, ap (λ (z : Facility). z.counter) e)

counts : (f g : Facility) (m : ℕ) (c : Command) (page after : List ℕ) (answer : Reply) → Executes f m c page answer g after → Counts (draws c) f g answer
counts f g m (command.Obtain n mode) page after answer e = same f g _ e.0.1 refl
counts f g m (command.Grant slot n mode) page after answer e = same f g _ e.0.2 refl
counts f g m (command.Release n keeps) page after answer e = same f g _ e.0.2 refl
counts f g m (command.Purge n) page after answer e = same f g _ e.0.2 refl
counts f g m (command.RetainedAt n) page after answer e = same f g _ e.0.1 refl
counts f g m (command.Read id index) page after answer e = same f g _ e.1 refl
counts f g m (command.Write id index) page after answer e = same f g _ e.0.1 refl
counts f g m (command.Unregister index) page after answer e = same f g _ e.0.1 refl
counts f g m (command.Test index) page after answer e = same f g _ e.0.1 refl
counts f g m (command.CastoutRead id) page after answer e = same f g _ e.1 refl
counts f g m (command.CastoutDone id) page after answer e = same f g _ e.0.1 refl
counts f g m (command.NextChanged past) page after answer e = same f g _ e.0.1 refl
counts f g m command.Lose page after answer e = same f g _ e.0.1 refl
counts f g m command.Rebuilt page after answer e = same f g _ e.0.1 refl
counts f g m (command.Ask slot to n mode) page after answer e = same f g _ e.0.1.1 refl
counts f g m (command.Take past) page after answer e = same f g _ e.0.1 refl
counts f g m (command.Answer asker n mode said event) page after answer e = answer_counts f g m asker n mode said event answer e.0
counts f g m (command.Answers slot) page after answer e = same f g _ e.0.1 refl
counts f g m (command.Wait tran holder flag) page after answer e = same f g _ e.0.1 refl
counts f g m (command.Unwait tran) page after answer e = same f g _ e.0.1 refl
counts f g m command.Waits page after answer e = same f g _ e.0.1 refl
counts f g m (command.End tran) page after answer e = same f g _ e.0.1 refl
counts f g m (command.Raise flag) page after answer e = same f g _ e.0.1 refl
counts f g m (command.Flag flag) page after answer e = same f g _ e.0.1 refl
counts f g m (command.SetStatus status) page after answer e = same f g _ e.0.1 refl
counts f g m (command.Status member) page after answer e = same f g _ e.0.1 refl
counts f g m command.Claim page after answer e = same f g _ e.0.1 refl
counts f g m command.Unclaim page after answer e = same f g _ e.0.1 refl
counts f g m command.PhaseDone page after answer e = same f g _ e.0.1 refl
counts f g m (command.Draw indexes) page after answer e = draw_counts (first_stale f.directory m (given indexes)) f g answer e.0.0 e.0.1
counts f g m (command.DrawUndo indexes) page after answer e = undo_counts (first_stale f.directory m (given indexes)) f g answer e.0.0 e.0.1

-- ---- an event and the counter
abbrev pub is_drawn_answer : Answered → Bool
is_drawn_answer answered.None = false
is_drawn_answer (answered.Reply r) = is_drawn_reply r
is_drawn_answer answered.Done = false
is_drawn_answer answered.Failed = false

abbrev pub is_draw : Sent → Bool
is_draw sent.None = false
is_draw (sent.Command c) = draws c
is_draw sent.AppendLog = false
is_draw (sent.ReadPage page) = false
is_draw (sent.WritePage page) = false

abbrev pub is_log_sent : Sent → Bool
is_log_sent sent.None = false
is_log_sent (sent.Command c) = false
is_log_sent sent.AppendLog = true
is_log_sent (sent.ReadPage page) = false
is_log_sent (sent.WritePage page) = false

-- the next number was drawn
pub record DrawsNext (f g : Facility) (a : Answered) : Type 0 where
  pub answer : a ≡ answered.Reply (reply.Drawn (f.counter + 1))
  pub counter : g.counter ≡ f.counter + 1

abbrev pub CountsAs : Bool → Facility → Facility → Answered → Type 0
CountsAs true f g a = DrawsNext f g a ⊎ ((is_drawn_answer a ≡ false) × (g.counter ≡ f.counter))
CountsAs false f g a = g.counter ≡ f.counter

answered_as : (b : Bool) (f g : Facility) (answer : Reply) (a : Answered) → a ≡ answered.Reply answer → Counts b f g answer → CountsAs b f g a
answered_as true f g answer a e (inl d) = inl (record { answer = e ∙ ap answered.Reply d.0; counter = d.1 })
answered_as true f g answer a e (inr d) = inr (ap is_drawn_answer e ∙ d.0, d.1)
answered_as false f g answer a e d = d

pub runs_count : (u v : event.World) (h k : Held) (i : Intent) (s : Sent) (p : Plan) (place : ℕ) (a : Answered) (said : Told) → Runs u h i s p place a said v k → CountsAs (is_draw s) u.facility v.facility a
runs_count u v h k i sent.None p place a said r = ap (λ (z : event.World). z.facility.counter) r.world
runs_count u v h k i (sent.Command c) p place a said r = answered_as (draws c) u.facility v.facility r.0.answer a r.0.is (counts u.facility v.facility h.marks.member c _ _ r.0.answer r.0.gives.executed.executes)
runs_count u v h k i sent.AppendLog p place a said r = ap (λ (z : Facility). z.counter) r.1
runs_count u v h k i (sent.ReadPage page) p place a said r = ap (λ (z : Facility). z.counter) r.1
runs_count u v h k i (sent.WritePage page) p place a said r = ap (λ (z : Facility). z.counter) r.1

-- ---- what is sent, by the intent
abbrev pub draws_number : Intent → Bool
draws_number (intent.Change slot action frames) = true
draws_number (intent.Undo o at) = true
draws_number (intent.Commit slot) = true
draws_number _ = false

pub record SendsAs (i : Intent) (s : Sent) : Type 0 where
  pub appends : is_log_sent s ≡ is_append i
  pub draws : is_draw s ≡ draws_number i

sent_by : (i : Intent) (s t : Sent) → s ≡ t → is_log_sent t ≡ is_append i → is_draw t ≡ draws_number i → SendsAs i s
sent_by i s t e appends draws = record { appends = ap is_log_sent e ∙ appends; draws = ap is_draw e ∙ draws }

sent_when : (i : Intent) (s x y : Sent) (b : Bool) → s ≡ (if b then x else y) → is_log_sent x ≡ is_append i → is_log_sent y ≡ is_append i → is_draw x ≡ draws_number i → is_draw y ≡ draws_number i → SendsAs i s
sent_when i s x y true e a b c d = sent_by i s x e a c
sent_when i s x y false e a b c d = sent_by i s y e b d

pub sends_as : (s : MarksState) (pages : List (List ℕ)) (c : Setting) (i : Intent) (out : Sent) → Lawful s pages c i out → SendsAs i out
sends_as s pages c intent.Step out e = sent_by intent.Step out _ e refl refl
sends_as s pages c (intent.Obtain o n m) out e = sent_by (intent.Obtain o n m) out _ e.is refl refl
sends_as s pages c (intent.Grant o n m) out e = sent_by (intent.Grant o n m) out _ e.is refl refl
sends_as s pages c (intent.Ask o to n m) out e = sent_by (intent.Ask o to n m) out _ e refl refl
sends_as s pages c (intent.Answers o n m asked) out e = sent_by (intent.Answers o n m asked) out _ e refl refl
sends_as s pages c (intent.Status member) out e = sent_by (intent.Status member) out _ e refl refl
sends_as s pages c (intent.Take past) out e = sent_by (intent.Take past) out _ e refl refl
sends_as s pages c (intent.Answer asker n m) out e = sent_by (intent.Answer asker n m) out _ e.is refl refl
sends_as s pages c (intent.ReleaseLock o) out e = sent_by (intent.ReleaseLock o) out _ e.is refl refl
sends_as s pages c (intent.ReleasePage page) out e = sent_by (intent.ReleasePage page) out _ e.is refl refl
sends_as s pages c (intent.Purge n) out e = sent_by (intent.Purge n) out _ e.is refl refl
sends_as s pages c (intent.End o) out e = sent_when (intent.End o) out sent.None (sent.Command (command.End (id_of s o))) ((id_of s o).number == 0) e.is refl refl refl refl
sends_as s pages c (intent.Wait slot holder flag) out e = sent_by (intent.Wait slot holder flag) out _ e.is refl refl
sends_as s pages c (intent.Unwait slot) out e = sent_by (intent.Unwait slot) out _ e.is refl refl
sends_as s pages c (intent.Waits slots) out e = sent_by (intent.Waits slots) out _ e refl refl
sends_as s pages c (intent.Flag flag) out e = sent_by (intent.Flag flag) out _ e refl refl
sends_as s pages c (intent.Raise flag) out e = sent_by (intent.Raise flag) out _ e refl refl
sends_as s pages c intent.LoseCache out e = sent_by intent.LoseCache out _ e refl refl
sends_as s pages c (intent.Read frame) out e = sent_by (intent.Read frame) out _ e.is refl refl
sends_as s pages c (intent.ReadPage frame) out e = sent_by (intent.ReadPage frame) out _ e.is refl refl
sends_as s pages c (intent.Test frame slot gives) out e = sent_by (intent.Test frame slot gives) out _ e.is refl refl
sends_as s pages c (intent.WritePage frame) out e = sent_by (intent.WritePage frame) out _ e.is refl refl
sends_as s pages c (intent.Unregister frame) out e = sent_by (intent.Unregister frame) out _ e.is refl refl
sends_as s pages c (intent.Change slot action frames) out e = sent_by (intent.Change slot action frames) out _ e.is refl refl
sends_as s pages c (intent.Undo o frame) out e = sent_by (intent.Undo o frame) out _ e.is refl refl
sends_as s pages c (intent.Commit slot) out e = sent_by (intent.Commit slot) out _ e.is refl refl
sends_as s pages c intent.Append out e = sent_by intent.Append out _ e.is refl refl
sends_as s pages c (intent.NextChanged past) out e = sent_by (intent.NextChanged past) out _ e refl refl
sends_as s pages c (intent.CastoutRead page) out e = sent_by (intent.CastoutRead page) out _ e refl refl
sends_as s pages c intent.CastoutWrite out e = sent_when intent.CastoutWrite out (sent.WritePage e.cast.page) (done e.cast.page) c.is_holder e.is refl refl refl refl
sends_as s pages c intent.CastoutDone out e = sent_by intent.CastoutDone out _ e.is refl refl
sends_as s pages c intent.PhaseDone out e = sent_by intent.PhaseDone out _ e refl refl

-- ---- what is put, by the intent and the answer
drawn_none : (r : Reply) (records : ℕ → List LogRecord) → is_drawn_reply r ≡ false → drawn_by r records ≡ []
drawn_none (reply.Drawn n) records e = absurd (false≢true (sym e))
drawn_none _ records e = refl

reply_none : (s : MarksState) (i : Intent) (p : Plan) (r : Reply) → is_drawn_reply r ≡ false → reply_records s i p r ≡ []
reply_none s (intent.Change slot action frames) p r e = drawn_none r _ e
reply_none s (intent.Undo o at) p r e = drawn_none r _ e
reply_none s (intent.Commit slot) p r e = drawn_none r _ e
reply_none s _ p r e = refl

pub undrawn_none : (s : MarksState) (i : Intent) (p : Plan) (a : Answered) → is_drawn_answer a ≡ false → event_records s i p a ≡ []
undrawn_none s i p answered.None e = refl
undrawn_none s i p (answered.Reply r) e = reply_none s i p r e
undrawn_none s i p answered.Done e = refl
undrawn_none s i p answered.Failed e = refl

reply_other : (s : MarksState) (i : Intent) (p : Plan) (r : Reply) → draws_number i ≡ false → reply_records s i p r ≡ []
reply_other s (intent.Change slot action frames) p r e = absurd (false≢true (sym e))
reply_other s (intent.Undo o at) p r e = absurd (false≢true (sym e))
reply_other s (intent.Commit slot) p r e = absurd (false≢true (sym e))
reply_other s _ p r e = refl

pub other_none : (s : MarksState) (i : Intent) (p : Plan) (a : Answered) → draws_number i ≡ false → event_records s i p a ≡ []
other_none s i p answered.None e = refl
other_none s i p (answered.Reply r) e = reply_other s i p r e
other_none s i p answered.Done e = refl
other_none s i p answered.Failed e = refl
