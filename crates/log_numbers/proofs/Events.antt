-- The numbers behind any event of a member.
use Rattle.std.proofs.Common.{◌≡◌, ℕ, zero, suc, ◌+◌, ◌≤◌, refl, sym, ◌∙◌, ap, subst, arith, Bool, true, false, List, [], ◌∷◌, length, Option, Some, None, Result, Ok, Err}
use Rattle.std.specs.Prelude.{◌≢◌, nat_lt, if◌then◌else◌, slice_index_or, slice_set}
use Rattle.ds_base.specs.declared.names.PageId.{PageId}
use Rattle.ds_disk.specs.declared.disk.DiskError.{DiskError}
use Rattle.ds_disk.specs.declared.disk.DiskError.TheVariants as disk_error
use Rattle.list_structure.specs.declared.query.Cell.{Cell}
use Rattle.list_structure.specs.declared.wait.Wait.{Wait}
use Rattle.facility.specs.Commands.{Executes, cells_for}
use Rattle.facility.specs.Counting.{counter_after, draw_reply, drawn as drawn_reply, drawn_to, first_stale, given, limit}
use Rattle.facility.specs.States.{Held as Facility}
use Rattle.facility.specs.declared.command.Command.{Command}
use Rattle.facility.specs.declared.command.Command.TheVariants as command
use Rattle.facility.specs.declared.command.Indexes.{Indexes}
use Rattle.facility.specs.declared.command.Reply.{Reply}
use Rattle.facility.specs.declared.command.Reply.TheVariants as reply
use Rattle.member_intents.specs.declared.intent.Intent.{Intent}
use Rattle.member_intents.specs.declared.intent.Intent.TheVariants as intent
use Rattle.member_intents.specs.declared.outcome.Answered.{Answered}
use Rattle.member_intents.specs.declared.outcome.Sent.{Sent}
use Rattle.member_intents.specs.declared.outcome.Sent.TheVariants as sent
use Rattle.member_intents.specs.declared.test.Test.{Test}
use Rattle.member_trans.specs.Trans.{TranState, free_tran, is_forward, with_room}
use Rattle.member_marks.specs.State.{MarksState, slot_tran}
use Rattle.member_needs.specs.declared.plans.Plan.{Plan}
use Rattle.member_needs.specs.Needs.{need_of}
use Rattle.member_needs.specs.Records.{indexes_of}
use Rattle.member_effects.specs.Answers.{nothing, summed}
use Rattle.member_effects.specs.declared.told.Told.{Told}
use Rattle.member_resources.specs.declared.prepared.Prepared.{Prepared}
use Rattle.member_resources.specs.declared.lending.Lent.{Lent}
use Rattle.member_resources.specs.declared.lending.Lent.TheVariants as lent
use Rattle.member_resources.specs.Events.{Calls, Drive, Happens, ReadsAs, ReadsFrame, Runs, RunsCall, RunsCommand, SettlesAs, Stores, World, frame_read, holder_in, waits_in}
use Rattle.member_resources.specs.Held.{Held, begun, with_spare}
use Rattle.member_resources.specs.Lending.{lent_of, with_bytes}
use Rattle.member_resources.specs.Prepared.{Reserves, needed, setting_of, with_change_room}
use Rattle.member_resources.specs.Settled.{Settles, cast_read, kept_of, settled, stored, unsent}
use Rattle.needs_law.specs.Lawful.{Lawful, SendsLawfully}
use Rattle.log_numbers.specs.Numbers.{AreCounted, CountedStay, ForwardStay, forward_in}
use Rattle.log_numbers.proofs.Commands.{commands_count}
use Rattle.log_numbers.proofs.Effects.{DrawsBy, committed_goes, drawn_goes, goes_as, stays_claimed, stays_cycle, stays_ended, stays_ended_of, stays_filled, stays_found, stays_page_released, stays_purged, stays_read, stays_released, stays_tested, stays_unregistered, stays_written, undone_goes}
use Rattle.log_numbers.proofs.Locals.{reach_stays}
use Rattle.log_numbers.proofs.Records.{slot_like, stays_append}
use Rattle.log_numbers.proofs.Stays.{Draws, Stays, counted_more, fewer_same, stays_as, stays_fewer, stays_itself, stays_on}
use Rattle.ds_disk.specs.declared.disk.DiskError.TheVariants.{Failed}
use Rattle.member_needs.specs.Plans.{intent_plan}
use Rattle.member_needs.specs.declared.needs.Setting.{Setting}

-- ---- what is settled
-- a number is drawn by these alone
abbrev pub draws_in : Intent → Bool
draws_in (intent.Change slot action frames) = true
draws_in (intent.Undo o at) = true
draws_in (intent.Commit slot) = true
draws_in _ = false

-- by a change a transaction that goes forward
abbrev pub GoesForward : Intent → MarksState → Type 0
GoesForward (intent.Change slot action frames) s = is_forward (slot_tran s slot).stage ≡ true
GoesForward _ s = Unit {0}

abbrev pub GoesBy : Bool → Reply → MarksState → MarksState → Type 0
GoesBy true answer s t = DrawsBy answer s t
GoesBy false answer s t = Stays s t

marks_as : (h k x : Held) → k ≡ x → Stays h.marks x.marks → Stays h.marks k.marks
marks_as h k x e q = stays_as h.marks k.marks x.marks (ap (λ (z : Held). z.marks) e) q

cast_stays : (h : Held) (page : PageId) (answer : Reply) → Stays h.marks (cast_read h page answer).marks
cast_stays h page reply.Taken = stays_itself h.marks
cast_stays h page _ = stays_itself h.marks

settles_go : (h k : Held) (i : Intent) (p : Plan) (answer : Reply) (cells : List Cell) (place : ℕ) → GoesForward i h.marks → Settles h i p answer cells place k → GoesBy (draws_in i) answer h.marks k.marks
settles_go h k (intent.Obtain o n m) p answer cells place goes e = stays_claimed h.marks k.marks o n m answer place e.0
settles_go h k (intent.Grant o n m) p answer cells place goes e = stays_claimed h.marks k.marks o n m answer place e.0
settles_go h k (intent.Answers o n m asked) p answer cells place goes e = marks_as h k (settled h (intent.Answers o n m asked) p answer cells place) e (stays_found h.marks o n (summed cells 0 asked n m nothing).found)
settles_go h k (intent.ReleaseLock o) p answer cells place goes e = marks_as h k (settled h (intent.ReleaseLock o) p answer cells place) e (stays_released h.marks o answer)
settles_go h k (intent.ReleasePage page) p answer cells place goes e = marks_as h k (settled h (intent.ReleasePage page) p answer cells place) e (stays_page_released h.marks page answer)
settles_go h k (intent.Purge n) p answer cells place goes e = marks_as h k (settled h (intent.Purge n) p answer cells place) e (stays_purged h.marks n answer)
settles_go h k (intent.End o) p answer cells place goes e = marks_as h k (settled h (intent.End o) p answer cells place) e (stays_ended h.marks o answer)
settles_go h k (intent.Read at) p answer cells place goes e = marks_as h k (settled h (intent.Read at) p answer cells place) e (stays_read h.marks at answer)
settles_go h k (intent.Test at slot gives) p answer cells place goes e = marks_as h k (settled h (intent.Test at slot gives) p answer cells place) e (stays_tested h.marks h.pages at slot gives h.limit answer place)
settles_go h k (intent.WritePage at) p answer cells place goes e = marks_as h k (settled h (intent.WritePage at) p answer cells place) e (stays_written h.marks at answer)
settles_go h k (intent.Unregister at) p answer cells place goes e = marks_as h k (settled h (intent.Unregister at) p answer cells place) e (stays_unregistered h.marks at answer)
settles_go h k (intent.Change slot action frames) p answer cells place goes e = goes_as answer h.marks k.marks (settled h (intent.Change slot action frames) p answer cells place).marks (ap (λ (z : Held). z.marks) e) (drawn_goes (kept_of h) slot frames p answer place goes)
settles_go h k (intent.Undo o at) p answer cells place goes e = goes_as answer h.marks k.marks (settled h (intent.Undo o at) p answer cells place).marks (ap (λ (z : Held). z.marks) e) (undone_goes (kept_of h) o at p answer place)
settles_go h k (intent.Commit slot) p answer cells place goes e = goes_as answer h.marks k.marks (settled h (intent.Commit slot) p answer cells place).marks (ap (λ (z : Held). z.marks) e) (committed_goes h.marks slot answer place)
settles_go h k (intent.CastoutRead page) p answer cells place goes e = marks_as h k (settled h (intent.CastoutRead page) p answer cells place) e (cast_stays h page answer)
settles_go h k i p answer cells place goes e = marks_as h k (settled h i p answer cells place) e (stays_itself h.marks)

-- whatever was looked for: a look for a cycle draws nothing
pub settled_go : (h k : Held) (i : Intent) (p : Plan) (waits : List Wait) (answer : Reply) (cells : List Cell) (place : ℕ) (said : Told) → GoesForward i h.marks → SettlesAs (waits_in i) h i p waits cells answer place said k → GoesBy (draws_in i) answer h.marks k.marks
settled_go h k (intent.Waits slots) p waits answer cells place said goes e = stays_cycle h.marks k.marks waits slots place said e.0
settled_go h k i p waits answer cells place said goes e = settles_go h k i p answer cells place goes e.1

-- ---- what a command draws

-- from the one counter to the other
pub record Goes (c d : ℕ) (s t : MarksState) : Type 0 where
  pub counted : AreCounted c s → AreCounted d t
  pub forward : (id : ℕ) → id ≢ 0 → id ≤ c → forward_in t.trans id ≤ forward_in s.trans id

goes_drawn : (c : ℕ) (s t : MarksState) → Draws (c + 1) s t → Goes c (c + 1) s t
goes_drawn c s t draws = record { counted = λ k. draws.counted c refl k; forward = λ id some low. draws.forward id some (λ e. absurd (let q = e in omega (arith, low, q))) }

goes_stays : (c d : ℕ) (s t : MarksState) → c ≤ d → Stays s t → Goes c d s t
goes_stays c d s t le stays = record { counted = λ k. counted_more c d t le (stays.counted c k); forward = λ id some low. stays.forward id some }

itself : (n : ℕ) → n ≤ n
itself n = omega arith

goes_draw : (o : Option ℕ) (c : ℕ) (s t : MarksState) → DrawsBy (draw_reply o c) s t → Goes c (drawn_to o c) s t
goes_draw None c s t goes = by (nat_lt c limit) goes
  where
    by : (b : Bool) → DrawsBy (if b then reply.Drawn (c + 1) else reply.LrsnEnd c) s t → Goes c (if b then c + 1 else c) s t
    by true g = goes_drawn c s t g
    by false g = goes_stays c c s t (itself c) g
goes_draw (Some index) c s t goes = goes_stays c c s t (itself c) goes

goes_undo : (o : Option ℕ) (c : ℕ) (s t : MarksState) → DrawsBy (drawn_reply o c) s t → Goes c (counter_after o c) s t
goes_undo None c s t goes = goes_drawn c s t goes
goes_undo (Some index) c s t goes = goes_stays c c s t (itself c) goes

pub same_command : (c d : Command) → sent.Command c ≡ sent.Command d → c ≡ d
same_command c d e = cc

draw_goes : (w v : Facility) (m : ℕ) (c : Command) (indexes : Indexes) (lent left : List ℕ) (answer : Reply) (s t : MarksState) → sent.Command c ≡ sent.Command (command.Draw indexes)
    → Executes w m c lent answer v left → DrawsBy answer s t → Goes w.counter v.counter s t
draw_goes w v m c indexes lent left answer s t is e goes =
    let draws = subst (λ (z : Command). Executes w m z lent answer v left) (same_command c (command.Draw indexes) is) e in
    subst (λ (z : Facility). Goes w.counter z.counter s t) (sym draws.0.1)
    (goes_draw (first_stale w.directory m (given indexes)) w.counter s t (subst (λ (z : Reply). DrawsBy z s t) draws.0.0 goes))

undo_goes : (w v : Facility) (m : ℕ) (c : Command) (indexes : Indexes) (lent left : List ℕ) (answer : Reply) (s t : MarksState) → sent.Command c ≡ sent.Command (command.DrawUndo indexes)
    → Executes w m c lent answer v left → DrawsBy answer s t → Goes w.counter v.counter s t
undo_goes w v m c indexes lent left answer s t is e goes =
    let draws = subst (λ (z : Command). Executes w m z lent answer v left) (same_command c (command.DrawUndo indexes) is) e in
    subst (λ (z : Facility). Goes w.counter z.counter s t) (sym draws.0.1)
    (goes_undo (first_stale w.directory m (given indexes)) w.counter s t (subst (λ (z : Reply). DrawsBy z s t) draws.0.0 goes))

command_goes : (b : MarksState) (pages : List (List ℕ)) (set : Setting) (i : Intent) (c : Command) (w v : Facility) (m : ℕ) (lent left : List ℕ) (answer : Reply) (s t : MarksState) → Lawful b pages set i (sent.Command c)
    → Executes w m c lent answer v left → GoesBy (draws_in i) answer s t → Goes w.counter v.counter s t
command_goes b pages set (intent.Change slot action frames) c w v m lent left answer s t lawful e goes = draw_goes w v m c (indexes_of frames) lent left answer s t lawful.is e goes
command_goes b pages set (intent.Undo o at) c w v m lent left answer s t lawful e goes = undo_goes w v m c (record { count = 1; at = at ∷ 0 ∷ 0 ∷ [] }) lent left answer s t lawful.is e goes
command_goes b pages set (intent.Commit slot) c w v m lent left answer s t lawful e goes = draw_goes w v m c (record { count = 0; at = 0 ∷ 0 ∷ 0 ∷ [] }) lent left answer s t lawful.is e goes
command_goes b pages set _ c w v m lent left answer s t lawful e goes = goes_stays w.counter v.counter s t (commands_count w v m c lent left answer e) goes

-- ---- the bytes that a command is lent
pub lent_same : (h k : Held) (l : Lent) (page : List ℕ) → k ≡ with_bytes h l page → k.marks ≡ h.marks
lent_same h k (lent.Frame at) page e = ap (λ (z : Held). z.marks) e
lent_same h k lent.Buffer page e = ap (λ (z : Held). z.marks) e
lent_same h k lent.Spare page e = ap (λ (z : Held). z.marks) e

ran_goes : (b : MarksState) (pages : List (List ℕ)) (set : Setting) (w v : Facility) (h k : Held) (i : Intent) (c : Command) (p : Plan) (place : ℕ) (a : Answered) (said : Told) → Lawful b pages set i (sent.Command c) → GoesForward i h.marks
    → RunsCommand w h i c p place a said v k → Goes w.counter v.counter h.marks k.marks
ran_goes b pages set w v h k i c p place a said lawful forward r =
    let same = lent_same h r.after (lent_of h c) _ r.gives.executed.back in
    subst (λ (z : MarksState). Goes w.counter v.counter z k.marks) same
    (command_goes b pages set i c w v h.marks.member _ _ r.answer r.after.marks k.marks lawful r.gives.executed.executes
    (settled_go r.after k i p v.lists.waits r.answer (cells_for v.lists.cells r.after.marks.member c) place said (subst (λ (z : MarksState). GoesForward i z) (sym same) forward) r.settles))

ran_rises : (w v : Facility) (h k : Held) (i : Intent) (c : Command) (p : Plan) (place : ℕ) (a : Answered) (said : Told) → RunsCommand w h i c p place a said v k → w.counter ≤ v.counter
ran_rises w v h k i c p place a said r = commands_count w v h.marks.member c _ _ r.answer r.gives.executed.executes

-- ---- what sends nothing, and calls of the disk
unsent_stays : (h : Held) (i : Intent) → Stays h.marks (unsent h i).marks
unsent_stays h (intent.End o) = stays_ended_of h.marks o
unsent_stays h _ = stays_itself h.marks

read_same : (w v : Drive) (h k : Held) (page : PageId) (done : Result (Unit {0}) DiskError) (o : Option ℕ) → ReadsAs o w h page done v k → k.marks ≡ h.marks
read_same w v h k page done None e = ap (λ (z : Held). z.marks) e.2
read_same w v h k page done (Some at) e = by (nat_lt at (length h.pages)) e
  where
    by : (b : Bool) → ReadsFrame b w h at page done v k → k.marks ≡ h.marks
    by true r = ap (λ (z : Held). z.marks) r.1
    by false r = ap (λ (z : Held). z.marks) r.2

call_same : (w v : Drive) (h k : Held) (i : Intent) (s : Sent) (done : Result (Unit {0}) DiskError) → Calls w h i s done v k → k.marks ≡ h.marks
call_same w v h k i sent.None done e = ap (λ (z : Held). z.marks) e.2
call_same w v h k i (sent.Command c) done e = ap (λ (z : Held). z.marks) e.2
call_same w v h k i sent.AppendLog done e = ap (λ (z : Held). z.marks) e.1
call_same w v h k i (sent.ReadPage page) done e = read_same w v h k page done (frame_read i) e
call_same w v h k i (sent.WritePage page) done e = ap (λ (z : Held). z.marks) e.1

stored_stays : (h : Held) (i : Intent) → Stays h.marks (stored h i).marks
stored_stays h (intent.ReadPage at) = stays_filled h.marks at true
stored_stays h intent.Append = stays_append h.marks
stored_stays h _ = stays_itself h.marks

stores_stay : (h k : Held) (i : Intent) (done : Result (Unit {0}) DiskError) (a : Answered) (said : Told) → Stores h i done a said k → Stays h.marks k.marks
stores_stay h k i (Ok x) a said e = marks_as h k (stored h i) e.2 (stored_stays h i)
stores_stay h k i (Err disk_error.Failed) a said e = marks_as h k h e.2 (stays_itself h.marks)
stores_stay h k i (Err disk_error.NoMemory) a said e = absurd e

called_stays : (w v : Drive) (h k : Held) (i : Intent) (s : Sent) (a : Answered) (said : Told) → RunsCall w h i s a said v k → Stays h.marks k.marks
called_stays w v h k i s a said r = subst (λ (z : MarksState). Stays z k.marks) (call_same w v h r.after i s r.done r.calls) (stores_stay r.after k i r.done a said r.stores)

-- ---- the event, by what is sent
pub record RunsOn (w v : Facility) (s t : MarksState) : Type 0 where
  pub rises : w.counter ≤ v.counter
  pub goes : Goes w.counter v.counter s t

same_counter : (w v : Facility) (s t : MarksState) → v ≡ w → Stays s t → RunsOn w v s t
same_counter w v s t e stays = subst (λ (z : Facility). RunsOn w z s t) (sym e) (record { rises = itself w.counter; goes = goes_stays w.counter w.counter s t (itself w.counter) stays })

runs_on : (b : MarksState) (pages : List (List ℕ)) (set : Setting) (w v : World) (h k : Held) (i : Intent) (s : Sent) (p : Plan) (place : ℕ) (a : Answered) (said : Told) → Lawful b pages set i s → GoesForward i h.marks
    → Runs w h i s p place a said v k → RunsOn w.facility v.facility h.marks k.marks
runs_on b pages set w v h k i sent.None p place a said lawful forward r = same_counter w.facility v.facility h.marks k.marks (ap (λ (z : World). z.facility) r.world) (marks_as h k (unsent h i) r.held (unsent_stays h i))
runs_on b pages set w v h k i (sent.Command x) p place a said lawful forward r = record { rises = ran_rises w.facility v.facility h k i x p place a said r.0; goes = ran_goes b pages set w.facility v.facility h k i x p place a said lawful forward r.0 }
runs_on b pages set w v h k i sent.AppendLog p place a said lawful forward r = same_counter w.facility v.facility h.marks k.marks r.1 (called_stays w.drive v.drive h k i sent.AppendLog a said r.0)
runs_on b pages set w v h k i (sent.ReadPage page) p place a said lawful forward r = same_counter w.facility v.facility h.marks k.marks r.1 (called_stays w.drive v.drive h k i (sent.ReadPage page) a said r.0)
runs_on b pages set w v h k i (sent.WritePage page) p place a said lawful forward r = same_counter w.facility v.facility h.marks k.marks r.1 (called_stays w.drive v.drive h k i (sent.WritePage page) a said r.0)

-- ---- the memory that is taken, and the begin
ready_stays : (h ready : Held) (i : Intent) → Reserves i h ready → Stays h.marks ready.marks
ready_stays h ready (intent.Obtain o n m) e = marks_as h ready (with_spare h ready.marks.locks.spare) e.2 (stays_fewer h.marks (with_spare h ready.marks.locks.spare).marks refl (fewer_same h.marks.trans _ refl refl))
ready_stays h ready (intent.Grant o n m) e = marks_as h ready (with_spare h ready.marks.locks.spare) e.2 (stays_fewer h.marks (with_spare h ready.marks.locks.spare).marks refl (fewer_same h.marks.trans _ refl refl))
ready_stays h ready (intent.Change slot action frames) e = marks_as h ready (with_change_room h slot) e (stays_fewer h.marks (with_change_room h slot).marks refl (slot_like h.marks.trans slot (with_room (slot_tran h.marks slot)) refl (λ e. e) (λ e. e)))
ready_stays h ready _ e = marks_as h ready h e (stays_itself h.marks)

begun_stays : (h : Held) (place : ℕ) → Stays h.marks (begun h place).marks
begun_stays h place = stays_fewer h.marks (begun h place).marks refl (fewer_same h.marks.trans _ refl refl)

-- ---- the transaction of a change goes forward as it is sent
put_there : (ts : List TranState) (slot : ℕ) (x : TranState) → is_forward (slice_index_or ts slot free_tran).stage ≡ true → slice_index_or (slice_set ts slot x) slot free_tran ≡ x
put_there [] slot x forward = absurd cc
put_there (t ∷ ts) zero x forward = refl
put_there (t ∷ ts) (suc slot) x forward = put_there ts slot x forward

pub change_goes : (h ready : Held) (slot place : ℕ) → ready ≡ with_change_room h slot → is_forward (slot_tran h.marks slot).stage ≡ true → is_forward (slot_tran (begun ready place).marks slot).stage ≡ true
change_goes h ready slot place e goes =
    ap (λ (z : Held). is_forward (slot_tran z.marks slot).stage) e ∙ (ap (λ (z : TranState). is_forward z.stage) (put_there h.marks.trans.slots slot (with_room (slot_tran h.marks slot)) goes) ∙ goes)

goes_forward : (pages : List (List ℕ)) (set : Setting) (h ready : Held) (i : Intent) (s : Sent) (place : ℕ) → Lawful h.marks pages set i s → Reserves i h ready → GoesForward i (begun ready place).marks
goes_forward pages set h ready (intent.Change slot action frames) s place lawful e = change_goes h ready slot place e lawful.may.forward
goes_forward pages set h ready _ s place lawful e = tt

-- ---- the whole event
abbrev sent_in : Result Prepared Test → Result Sent Test
sent_in (Ok x) = Ok x.sent
sent_in (Err test) = Err test

needs_sent : (x : Result Sent Test) (y : Result Plan Test) (s : Sent) (p : Plan) → needed x y ≡ Ok (record { sent = s; plan = p }) → x ≡ Ok s
needs_sent (Err test) y s p e = absurd cc
needs_sent (Ok t) (Err test) s p e = absurd cc
needs_sent (Ok t) (Ok q) s p e = ap sent_in e

module _ (sends : SendsLawfully) (w v : World) (h k : Held) (i : Intent) (place : ℕ) (s : Sent) (a : Answered) (happens : Happens w h i place s a v k) where
  abbrev pub setting : Setting
  setting = setting_of h (holder_in w.facility h.cast) place

  pub sent_lawfully : Lawful h.marks h.pages setting i s
  sent_lawfully = sends h.marks h.pages setting i s (needs_sent (need_of h.marks h.pages setting i) (intent_plan h.marks h.pages h.limit i) s happens.plan happens.lawful)

  -- up to where it is sent, by what is sent, and then by local moves
  pub stays_ready : Stays h.marks (begun happens.ready place).marks
  stays_ready = stays_on h.marks happens.ready.marks (begun happens.ready place).marks (ready_stays h happens.ready i happens.reserves) (begun_stays happens.ready place)

  pub runs_between : RunsOn w.facility v.facility (begun happens.ready place).marks happens.after.marks
  runs_between = runs_on h.marks h.pages setting w v (begun happens.ready place) happens.after i s happens.plan place a happens.said sent_lawfully (goes_forward h.pages setting h happens.ready i s place sent_lawfully happens.reserves) happens.runs

  pub stays_local : Stays happens.after.marks k.marks
  stays_local = reach_stays happens.after.marks k.marks happens.ends.0

pub counted_stay : SendsLawfully → CountedStay
counted_stay sends w v h k i place s a happens c =
    let on = runs_between sends w v h k i place s a happens in
    record { rises = on.rises; counted = (stays_local sends w v h k i place s a happens).counted v.facility.counter (on.goes.counted ((stays_ready sends w v h k i place s a happens).counted w.facility.counter c)) }

pub forward_stay : SendsLawfully → ForwardStay
forward_stay sends w v h k i place s a happens id some low =
    let p = (stays_ready sends w v h k i place s a happens).forward id some in
    let q = (runs_between sends w v h k i place s a happens).goes.forward id some low in
    let r = (stays_local sends w v h k i place s a happens).forward id some in
    omega (arith, p, q, r)
