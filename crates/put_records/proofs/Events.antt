-- The log buffer behind any event of a member.
use Rattle.std.proofs.Common.{◌≡◌, ℕ, refl, sym, ◌∙◌, ap, subst, Bool, true, false, List, [], length, Option, Some, None, Result, Ok, Err}
use Rattle.std.specs.Prelude.{◌&&◌, nat_lt}
use Rattle.ds_base.specs.declared.names.PageId.{PageId}
use Rattle.ds_disk.specs.declared.disk.DiskError.{DiskError}
use Rattle.ds_disk.specs.declared.disk.DiskError.TheVariants as disk_error
use Rattle.list_structure.specs.declared.query.Cell.{Cell}
use Rattle.list_structure.specs.declared.wait.Wait.{Wait}
use Rattle.facility.specs.Commands.{cells_for}
use Rattle.facility.specs.States.{Held as Facility}
use Rattle.facility.specs.declared.command.Command.{Command}
use Rattle.facility.specs.declared.command.Reply.{Reply}
use Rattle.facility.specs.declared.command.Reply.TheVariants as reply
use Rattle.member_intents.specs.declared.intent.Intent.{Intent}
use Rattle.member_intents.specs.declared.intent.Intent.TheVariants as intent
use Rattle.member_intents.specs.declared.outcome.Answered.{Answered}
use Rattle.member_intents.specs.declared.outcome.Answered.TheVariants as answered
use Rattle.member_intents.specs.declared.outcome.Sent.{Sent}
use Rattle.member_intents.specs.declared.outcome.Sent.TheVariants as sent
use Rattle.member_log.specs.Buffers.{LogBuffer}
use Rattle.member_marks.specs.State.{MarksState}
use Rattle.member_needs.specs.declared.plans.Plan.{Plan}
use Rattle.member_effects.specs.Answers.{nothing, summed}
use Rattle.member_effects.specs.Puts.{event_records, reply_records}
use Rattle.member_effects.specs.declared.told.Told.{Told}
use Rattle.member_resources.specs.declared.lending.Lent.{Lent}
use Rattle.member_resources.specs.declared.lending.Lent.TheVariants as lent
use Rattle.member_resources.specs.Events.{Calls, Drive, ReadsAs, ReadsFrame, Runs, RunsCall, RunsCommand, SettlesAs, Stores, World, frame_read, waits_in}
use Rattle.member_resources.specs.Held.{Held, begun, with_spare}
use Rattle.member_resources.specs.Lending.{lent_of, with_bytes}
use Rattle.member_resources.specs.Prepared.{Reserves, with_change_room}
use Rattle.member_resources.specs.Settled.{Settles, cast_read, kept_of, settled, stored, unsent}
use Rattle.put_records.specs.Puts.{EventsPut, is_append, is_done, pending_after}
use Rattle.put_records.proofs.Effects.{committed_put, drawn_put, stays_claimed, stays_cycle, stays_ended, stays_ended_of, stays_filled, stays_found, stays_page_released, stays_purged, stays_read, stays_released, stays_tested, stays_unregistered, stays_written, undone_put}
use Rattle.put_records.proofs.Locals.{reach_stays}
use Rattle.put_records.proofs.Stays.{Puts, Stays, puts_as, puts_none, stays_as, stays_itself, stays_log, stays_on}

-- ---- what is settled
marks_as : (h k x : Held) → k ≡ x → Stays h.marks x.marks → Stays h.marks k.marks
marks_as h k x e q = stays_as h.marks k.marks x.marks (ap (λ (z : Held). z.marks) e) q

-- nothing is put
none_as : (h k x : Held) → k ≡ x → Stays h.marks x.marks → Puts h.marks k.marks []
none_as h k x e q = puts_none h.marks k.marks (marks_as h k x e q)

cast_stays : (h : Held) (page : PageId) (answer : Reply) → Stays h.marks (cast_read h page answer).marks
cast_stays h page reply.Taken = stays_itself h.marks
cast_stays h page _ = stays_itself h.marks

settles_put : (h k : Held) (i : Intent) (p : Plan) (answer : Reply) (cells : List Cell) (place : ℕ) → Settles h i p answer cells place k → Puts h.marks k.marks (reply_records h.marks i p answer)
settles_put h k (intent.Obtain o n m) p answer cells place e = puts_none h.marks k.marks (stays_claimed h.marks k.marks o n m answer place e.0)
settles_put h k (intent.Grant o n m) p answer cells place e = puts_none h.marks k.marks (stays_claimed h.marks k.marks o n m answer place e.0)
settles_put h k (intent.Answers o n m asked) p answer cells place e = none_as h k (settled h (intent.Answers o n m asked) p answer cells place) e (stays_found h.marks o n (summed cells 0 asked n m nothing).found)
settles_put h k (intent.ReleaseLock o) p answer cells place e = none_as h k (settled h (intent.ReleaseLock o) p answer cells place) e (stays_released h.marks o answer)
settles_put h k (intent.ReleasePage page) p answer cells place e = none_as h k (settled h (intent.ReleasePage page) p answer cells place) e (stays_page_released h.marks page answer)
settles_put h k (intent.Purge n) p answer cells place e = none_as h k (settled h (intent.Purge n) p answer cells place) e (stays_purged h.marks n answer)
settles_put h k (intent.End o) p answer cells place e = none_as h k (settled h (intent.End o) p answer cells place) e (stays_ended h.marks o answer)
settles_put h k (intent.Read at) p answer cells place e = none_as h k (settled h (intent.Read at) p answer cells place) e (stays_read h.marks at answer)
settles_put h k (intent.Test at slot gives) p answer cells place e = none_as h k (settled h (intent.Test at slot gives) p answer cells place) e (stays_tested h.marks h.pages at slot gives h.limit answer place)
settles_put h k (intent.WritePage at) p answer cells place e = none_as h k (settled h (intent.WritePage at) p answer cells place) e (stays_written h.marks at answer)
settles_put h k (intent.Unregister at) p answer cells place e = none_as h k (settled h (intent.Unregister at) p answer cells place) e (stays_unregistered h.marks at answer)
settles_put h k (intent.Change slot action frames) p answer cells place e =
    puts_as h.marks k.marks (settled h (intent.Change slot action frames) p answer cells place).marks (reply_records h.marks (intent.Change slot action frames) p answer) (ap (λ (z : Held). z.marks) e) (drawn_put (kept_of h) slot frames p answer place)
settles_put h k (intent.Undo o at) p answer cells place e =
    puts_as h.marks k.marks (settled h (intent.Undo o at) p answer cells place).marks (reply_records h.marks (intent.Undo o at) p answer) (ap (λ (z : Held). z.marks) e) (undone_put (kept_of h) o at p answer place)
settles_put h k (intent.Commit slot) p answer cells place e =
    puts_as h.marks k.marks (settled h (intent.Commit slot) p answer cells place).marks (reply_records h.marks (intent.Commit slot) p answer) (ap (λ (z : Held). z.marks) e) (committed_put h.marks slot answer place)
settles_put h k (intent.CastoutRead page) p answer cells place e = none_as h k (settled h (intent.CastoutRead page) p answer cells place) e (cast_stays h page answer)
settles_put h k i p answer cells place e = none_as h k (settled h i p answer cells place) e (stays_itself h.marks)

-- whatever was looked for: a look for a cycle puts nothing
settled_put : (h k : Held) (i : Intent) (p : Plan) (waits : List Wait) (answer : Reply) (cells : List Cell) (place : ℕ) (said : Told) → SettlesAs (waits_in i) h i p waits cells answer place said k
    → Puts h.marks k.marks (reply_records h.marks i p answer)
settled_put h k (intent.Waits slots) p waits answer cells place said e = puts_none h.marks k.marks (stays_cycle h.marks k.marks waits slots place said e.0)
settled_put h k i p waits answer cells place said e = settles_put h k i p answer cells place e.1

-- ---- the buffer behind it, by what was answered
abbrev pub Leaves : MarksState → MarksState → Intent → Plan → Answered → Type 0
Leaves s t i p a = t.log.pending ≡ pending_after (is_done a && is_append i) s.log.pending (event_records s i p a)

answered_as : (s t : MarksState) (i : Intent) (p : Plan) (a b : Answered) → a ≡ b → Leaves s t i p b → Leaves s t i p a
answered_as s t i p a b e k = subst (λ (z : Answered). Leaves s t i p z) (sym e) k

lent_same : (h k : Held) (l : Lent) (page : List ℕ) → k ≡ with_bytes h l page → k.marks ≡ h.marks
lent_same h k (lent.Frame at) page e = ap (λ (z : Held). z.marks) e
lent_same h k lent.Buffer page e = ap (λ (z : Held). z.marks) e
lent_same h k lent.Spare page e = ap (λ (z : Held). z.marks) e

ran : (w v : Facility) (h k : Held) (i : Intent) (c : Command) (p : Plan) (place : ℕ) (a : Answered) (said : Told) → RunsCommand w h i c p place a said v k → Leaves h.marks k.marks i p a
ran w v h k i c p place a said r =
    let same = lent_same h r.after (lent_of h c) _ r.gives.executed.back in
    let put = settled_put r.after k i p v.lists.waits r.answer (cells_for v.lists.cells r.after.marks.member c) place said r.settles in
    answered_as h.marks k.marks i p a (answered.Reply r.answer) r.is (subst (λ (z : MarksState). Leaves z k.marks i p (answered.Reply r.answer)) same put.pending)

-- ---- what sends nothing, and calls of the disk
unsent_stays : (h : Held) (i : Intent) → Stays h.marks (unsent h i).marks
unsent_stays h (intent.End o) = stays_ended_of h.marks o
unsent_stays h _ = stays_itself h.marks

read_same : (w v : Drive) (h k : Held) (page : PageId) (done : Result (Unit {0}) DiskError) (o : Option ℕ) → ReadsAs o w h page done v k → k.marks ≡ h.marks
read_same w v h k page done None e = ap (λ (z : Held). z.marks) e.2
read_same w v h k page done (Some at) e = by (nat_lt at (length h.pages)) e
  where
    by : (b : Bool) → ReadsFrame b w h at page done v k → k.marks ≡ h.marks
    by true r = ap (λ (z : Held). z.marks) r.1
    by false r = ap (λ (z : Held). z.marks) r.2

call_same : (w v : Drive) (h k : Held) (i : Intent) (s : Sent) (done : Result (Unit {0}) DiskError) → Calls w h i s done v k → k.marks ≡ h.marks
call_same w v h k i sent.None done e = ap (λ (z : Held). z.marks) e.2
call_same w v h k i (sent.Command c) done e = ap (λ (z : Held). z.marks) e.2
call_same w v h k i sent.AppendLog done e = ap (λ (z : Held). z.marks) e.1
call_same w v h k i (sent.ReadPage page) done e = read_same w v h k page done (frame_read i) e
call_same w v h k i (sent.WritePage page) done e = ap (λ (z : Held). z.marks) e.1

stored_leaves : (h : Held) (i : Intent) (p : Plan) → Leaves h.marks (stored h i).marks i p answered.Done
stored_leaves h (intent.ReadPage at) p = (puts_none h.marks (stored h (intent.ReadPage at)).marks (stays_filled h.marks at true)).pending
stored_leaves h intent.Append p = refl
stored_leaves h _ p = (puts_none h.marks h.marks (stays_itself h.marks)).pending

stores_leave : (h k : Held) (i : Intent) (p : Plan) (done : Result (Unit {0}) DiskError) (a : Answered) (said : Told) → Stores h i done a said k → Leaves h.marks k.marks i p a
stores_leave h k i p (Ok x) a said e = answered_as h.marks k.marks i p a answered.Done e.0 (subst (λ (z : Held). Leaves h.marks z.marks i p answered.Done) (sym e.2) (stored_leaves h i p))
stores_leave h k i p (Err disk_error.Failed) a said e = answered_as h.marks k.marks i p a answered.Failed e.0 (none_as h k h e.2 (stays_itself h.marks)).pending
stores_leave h k i p (Err disk_error.NoMemory) a said e = absurd e

called : (w v : Drive) (h k : Held) (i : Intent) (s : Sent) (p : Plan) (a : Answered) (said : Told) → RunsCall w h i s a said v k → Leaves h.marks k.marks i p a
called w v h k i s p a said r = subst (λ (z : MarksState). Leaves z k.marks i p a) (call_same w v h r.after i s r.done r.calls) (stores_leave r.after k i p r.done a said r.stores)

runs_leave : (w v : World) (h k : Held) (i : Intent) (s : Sent) (p : Plan) (place : ℕ) (a : Answered) (said : Told) → Runs w h i s p place a said v k → Leaves h.marks k.marks i p a
runs_leave w v h k i sent.None p place a said r = answered_as h.marks k.marks i p a answered.None r.is (none_as h k (unsent h i) r.held (unsent_stays h i)).pending
runs_leave w v h k i (sent.Command x) p place a said r = ran w.facility v.facility h k i x p place a said r.0
runs_leave w v h k i sent.AppendLog p place a said r = called w.drive v.drive h k i sent.AppendLog p a said r.0
runs_leave w v h k i (sent.ReadPage page) p place a said r = called w.drive v.drive h k i (sent.ReadPage page) p a said r.0
runs_leave w v h k i (sent.WritePage page) p place a said r = called w.drive v.drive h k i (sent.WritePage page) p a said r.0

-- ---- the memory that is taken, and the begin
ready_stays : (h ready : Held) (i : Intent) → Reserves i h ready → Stays h.marks ready.marks
ready_stays h ready (intent.Obtain o n m) e = marks_as h ready (with_spare h ready.marks.locks.spare) e.2 (stays_log h.marks (with_spare h ready.marks.locks.spare).marks refl)
ready_stays h ready (intent.Grant o n m) e = marks_as h ready (with_spare h ready.marks.locks.spare) e.2 (stays_log h.marks (with_spare h ready.marks.locks.spare).marks refl)
ready_stays h ready (intent.Change slot action frames) e = marks_as h ready (with_change_room h slot) e (stays_log h.marks (with_change_room h slot).marks refl)
ready_stays h ready _ e = marks_as h ready h e (stays_itself h.marks)

begun_stays : (h : Held) (place : ℕ) → Stays h.marks (begun h place).marks
begun_stays h place = stays_log h.marks (begun h place).marks refl

-- ---- the whole event
pub events_put : EventsPut
events_put w v h k i place s a happens =
    let first : Stays h.marks (begun happens.ready place).marks = stays_on h.marks happens.ready.marks (begun happens.ready place).marks (ready_stays h happens.ready i happens.reserves) (begun_stays happens.ready place) in
    let after : Leaves (begun happens.ready place).marks happens.after.marks i happens.plan a = runs_leave w v (begun happens.ready place) happens.after i s happens.plan place a happens.said happens.runs in
    let last : Stays happens.after.marks k.marks = reach_stays happens.after.marks k.marks happens.ends.0 in
    ap (λ (z : LogBuffer). z.pending) last.log ∙ after
    ∙ ap (λ (z : LogBuffer). pending_after (is_done a && is_append i) z.pending (event_records (begun happens.ready place).marks i happens.plan a)) first.log
