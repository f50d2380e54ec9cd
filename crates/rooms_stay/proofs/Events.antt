-- What an event leaves of the frames and slots, by its intent.
use Rattle.std.proofs.Common.{◌≡◌, ℕ, refl, ◌∙◌, ap, subst, Bool, true, false, List, Option, Some, None, Result, Ok, Err}
use Rattle.std.specs.Prelude.{◌+◌, nat_lt, length}
use Rattle.std.proofs.lemmas.List.{length-replicate}
use Rattle.ds_base.specs.declared.names.PageId.{PageId}
use Rattle.ds_disk.specs.declared.disk.DiskError.{DiskError}
use Rattle.ds_disk.specs.declared.disk.DiskError.TheVariants as disk_error
use Rattle.list_structure.specs.declared.query.Cell.{Cell}
use Rattle.list_structure.specs.declared.wait.Wait.{Wait}
use Rattle.facility.specs.declared.command.Reply.{Reply}
use Rattle.facility.specs.declared.command.Reply.TheVariants as reply
use Rattle.facility.specs.Commands.{cells_for}
use Rattle.member_intents.specs.declared.intent.Intent.{Intent}
use Rattle.member_intents.specs.declared.intent.Intent.TheVariants as intent
use Rattle.member_intents.specs.declared.outcome.Answered.{Answered}
use Rattle.member_intents.specs.declared.outcome.Sent.{Sent}
use Rattle.member_intents.specs.declared.outcome.Sent.TheVariants as sent
use Rattle.member_pool.specs.Frames.{free_frame}
use Rattle.member_pool.specs.Heads.{HeadState}
use Rattle.member_trans.specs.Trans.{TransState, after_event, free_tran, with_room}
use Rattle.member_marks.specs.State.{slot_tran}
use Rattle.member_effects.specs.Given.{Plan}
use Rattle.member_effects.specs.declared.told.Told.{Told}
use Rattle.member_effects.specs.Answers.{summed, nothing}
use Rattle.member_resources.specs.declared.lending.Lent.{Lent}
use Rattle.member_resources.specs.declared.lending.Lent.TheVariants as lent
use Rattle.member_resources.specs.Held.{Held, begun}
use Rattle.member_resources.specs.Events.{Drive, World, Calls, ReadsAs, ReadsFrame, Runs, RunsCall, SettlesAs, Stores, frame_read, waits_in}
use Rattle.member_resources.specs.Lending.{lent_of, with_bytes}
use Rattle.member_resources.specs.Prepared.{Reserves, with_change_room}
use Rattle.member_resources.specs.Settled.{Settles, cast_read, kept_of, settled, stored, unsent}
use Rattle.rooms_stay.specs.Rooms.{EventsKeep, RoomsBegin, SameRoom}
use Rattle.rooms_stay.proofs.Room.{moved_to, itself, of_trans, on}
use Rattle.rooms_stay.proofs.Slots.{many_set}
use Rattle.rooms_stay.proofs.Effects.{append, claims, commits, cycle, draws, end_of, ends, filled, found, frees, purged, read, releases, releases_page, tested, undoes, writes}
use Rattle.rooms_stay.proofs.Locals.{locals_keep}

-- ---- replies
cast : (h : Held) (page : PageId) (answer : Reply) → SameRoom h.marks (cast_read h page answer).marks
cast h page (reply.Granted version) = itself h.marks
cast h page (reply.Retained by) = itself h.marks
cast h page (reply.RecordsFull limit) = itself h.marks
cast h page (reply.Contention share exclusive version) = itself h.marks
cast h page (reply.Moved version) = itself h.marks
cast h page (reply.RetainedLock name mode) = itself h.marks
cast h page reply.Done = itself h.marks
cast h page reply.Nothing = itself h.marks
cast h page reply.Found = itself h.marks
cast h page reply.NoData = itself h.marks
cast h page reply.CacheFull = itself h.marks
cast h page reply.Lost = itself h.marks
cast h page reply.Written = itself h.marks
cast h page reply.Valid = itself h.marks
cast h page reply.Invalid = itself h.marks
cast h page reply.Taken = itself h.marks
cast h page reply.NotChanged = itself h.marks
cast h page (reply.Locked by) = itself h.marks
cast h page reply.NotHeld = itself h.marks
cast h page (reply.ChangedPage other) = itself h.marks
cast h page (reply.Query query) = itself h.marks
cast h page reply.Gone = itself h.marks
cast h page reply.Cells = itself h.marks
cast h page reply.Waits = itself h.marks
cast h page reply.Raised = itself h.marks
cast h page reply.NotRaised = itself h.marks
cast h page (reply.Status status) = itself h.marks
cast h page reply.NotLost = itself h.marks
cast h page (reply.ClaimTaken by) = itself h.marks
cast h page reply.Claimed = itself h.marks
cast h page (reply.Drawn lrsn) = itself h.marks
cast h page (reply.Stale index) = itself h.marks
cast h page (reply.LrsnEnd end) = itself h.marks

settles : (h k : Held) (i : Intent) (p : Plan) (answer : Reply) (cells : List Cell) (place : ℕ) → Settles h i p answer cells place k → SameRoom h.marks k.marks
settles h k intent.Step p answer cells place e = moved_to h.marks k.marks (settled h intent.Step p answer cells place).marks (ap (λ (z : Held). z.marks) e) (itself h.marks)
settles h k (intent.Obtain o n m) p answer cells place e = claims h.marks k.marks o n m answer place e.0
settles h k (intent.Grant o n m) p answer cells place e = claims h.marks k.marks o n m answer place e.0
settles h k (intent.Ask o to n m) p answer cells place e = moved_to h.marks k.marks (settled h (intent.Ask o to n m) p answer cells place).marks (ap (λ (z : Held). z.marks) e) (itself h.marks)
settles h k (intent.Answers o n m asked) p answer cells place e = moved_to h.marks k.marks (settled h (intent.Answers o n m asked) p answer cells place).marks (ap (λ (z : Held). z.marks) e) (found h.marks o n (summed cells 0 asked n m nothing).found)
settles h k (intent.Status member) p answer cells place e = moved_to h.marks k.marks (settled h (intent.Status member) p answer cells place).marks (ap (λ (z : Held). z.marks) e) (itself h.marks)
settles h k (intent.Take past) p answer cells place e = moved_to h.marks k.marks (settled h (intent.Take past) p answer cells place).marks (ap (λ (z : Held). z.marks) e) (itself h.marks)
settles h k (intent.Answer asker n m) p answer cells place e = moved_to h.marks k.marks (settled h (intent.Answer asker n m) p answer cells place).marks (ap (λ (z : Held). z.marks) e) (itself h.marks)
settles h k (intent.ReleaseLock o) p answer cells place e = moved_to h.marks k.marks (settled h (intent.ReleaseLock o) p answer cells place).marks (ap (λ (z : Held). z.marks) e) (releases h.marks o answer)
settles h k (intent.ReleasePage page) p answer cells place e = moved_to h.marks k.marks (settled h (intent.ReleasePage page) p answer cells place).marks (ap (λ (z : Held). z.marks) e) (releases_page h.marks page answer)
settles h k (intent.Purge n) p answer cells place e = moved_to h.marks k.marks (settled h (intent.Purge n) p answer cells place).marks (ap (λ (z : Held). z.marks) e) (purged h.marks n answer)
settles h k (intent.End o) p answer cells place e = moved_to h.marks k.marks (settled h (intent.End o) p answer cells place).marks (ap (λ (z : Held). z.marks) e) (ends h.marks o answer)
settles h k (intent.Wait slot holder flag) p answer cells place e = moved_to h.marks k.marks (settled h (intent.Wait slot holder flag) p answer cells place).marks (ap (λ (z : Held). z.marks) e) (itself h.marks)
settles h k (intent.Unwait slot) p answer cells place e = moved_to h.marks k.marks (settled h (intent.Unwait slot) p answer cells place).marks (ap (λ (z : Held). z.marks) e) (itself h.marks)
settles h k (intent.Waits slots) p answer cells place e = moved_to h.marks k.marks (settled h (intent.Waits slots) p answer cells place).marks (ap (λ (z : Held). z.marks) e) (itself h.marks)
settles h k (intent.Flag flag) p answer cells place e = moved_to h.marks k.marks (settled h (intent.Flag flag) p answer cells place).marks (ap (λ (z : Held). z.marks) e) (itself h.marks)
settles h k (intent.Raise flag) p answer cells place e = moved_to h.marks k.marks (settled h (intent.Raise flag) p answer cells place).marks (ap (λ (z : Held). z.marks) e) (itself h.marks)
settles h k intent.LoseCache p answer cells place e = moved_to h.marks k.marks (settled h intent.LoseCache p answer cells place).marks (ap (λ (z : Held). z.marks) e) (itself h.marks)
settles h k (intent.Read at) p answer cells place e = moved_to h.marks k.marks (settled h (intent.Read at) p answer cells place).marks (ap (λ (z : Held). z.marks) e) (read h.marks at answer)
settles h k (intent.ReadPage at) p answer cells place e = moved_to h.marks k.marks (settled h (intent.ReadPage at) p answer cells place).marks (ap (λ (z : Held). z.marks) e) (itself h.marks)
settles h k (intent.Test at slot gives) p answer cells place e = moved_to h.marks k.marks (settled h (intent.Test at slot gives) p answer cells place).marks (ap (λ (z : Held). z.marks) e) (tested h.marks h.pages at slot gives h.limit answer place)
settles h k (intent.WritePage at) p answer cells place e = moved_to h.marks k.marks (settled h (intent.WritePage at) p answer cells place).marks (ap (λ (z : Held). z.marks) e) (writes h.marks at answer)
settles h k (intent.Unregister at) p answer cells place e = moved_to h.marks k.marks (settled h (intent.Unregister at) p answer cells place).marks (ap (λ (z : Held). z.marks) e) (frees h.marks at answer)
settles h k (intent.Change slot action frames) p answer cells place e = moved_to h.marks k.marks (settled h (intent.Change slot action frames) p answer cells place).marks (ap (λ (z : Held). z.marks) e) (draws (kept_of h) slot frames p answer place)
settles h k (intent.Undo o at) p answer cells place e = moved_to h.marks k.marks (settled h (intent.Undo o at) p answer cells place).marks (ap (λ (z : Held). z.marks) e) (undoes (kept_of h) o at p answer place)
settles h k (intent.Commit slot) p answer cells place e = moved_to h.marks k.marks (settled h (intent.Commit slot) p answer cells place).marks (ap (λ (z : Held). z.marks) e) (commits h.marks slot answer place)
settles h k intent.Append p answer cells place e = moved_to h.marks k.marks (settled h intent.Append p answer cells place).marks (ap (λ (z : Held). z.marks) e) (itself h.marks)
settles h k (intent.NextChanged past) p answer cells place e = moved_to h.marks k.marks (settled h (intent.NextChanged past) p answer cells place).marks (ap (λ (z : Held). z.marks) e) (itself h.marks)
settles h k (intent.CastoutRead page) p answer cells place e = moved_to h.marks k.marks (settled h (intent.CastoutRead page) p answer cells place).marks (ap (λ (z : Held). z.marks) e) (cast h page answer)
settles h k intent.CastoutWrite p answer cells place e = moved_to h.marks k.marks (settled h intent.CastoutWrite p answer cells place).marks (ap (λ (z : Held). z.marks) e) (itself h.marks)
settles h k intent.CastoutDone p answer cells place e = moved_to h.marks k.marks (settled h intent.CastoutDone p answer cells place).marks (ap (λ (z : Held). z.marks) e) (itself h.marks)
settles h k intent.PhaseDone p answer cells place e = moved_to h.marks k.marks (settled h intent.PhaseDone p answer cells place).marks (ap (λ (z : Held). z.marks) e) (itself h.marks)

-- whatever was looked for
settles_as : (h k : Held) (i : Intent) (p : Plan) (waits : List Wait) (answer : Reply) (cells : List Cell) (place : ℕ) (told : Told) (o : Option ℕ) → SettlesAs o h i p waits cells answer place told k → SameRoom h.marks k.marks
settles_as h k i p waits answer cells place told None e = settles h k i p answer cells place e.1
settles_as h k i p waits answer cells place told (Some slots) e = cycle h.marks k.marks waits slots place told e.0

-- ---- the bytes that a command is lent
lends : (h k : Held) (l : Lent) (page : List ℕ) → k ≡ with_bytes h l page → k.marks ≡ h.marks
lends h k (lent.Frame at) page e = ap (λ (z : Held). z.marks) e
lends h k lent.Buffer page e = ap (λ (z : Held). z.marks) e
lends h k lent.Spare page e = ap (λ (z : Held). z.marks) e

-- ---- what sends nothing
nothing_sent : (h : Held) (i : Intent) → SameRoom h.marks (unsent h i).marks
nothing_sent h intent.Step = itself h.marks
nothing_sent h (intent.Obtain o n m) = itself h.marks
nothing_sent h (intent.Grant o n m) = itself h.marks
nothing_sent h (intent.Ask o to n m) = itself h.marks
nothing_sent h (intent.Answers o n m asked) = itself h.marks
nothing_sent h (intent.Status member) = itself h.marks
nothing_sent h (intent.Take past) = itself h.marks
nothing_sent h (intent.Answer asker n m) = itself h.marks
nothing_sent h (intent.ReleaseLock o) = itself h.marks
nothing_sent h (intent.ReleasePage page) = itself h.marks
nothing_sent h (intent.Purge n) = itself h.marks
nothing_sent h (intent.End o) = end_of h.marks o
nothing_sent h (intent.Wait slot holder flag) = itself h.marks
nothing_sent h (intent.Unwait slot) = itself h.marks
nothing_sent h (intent.Waits slots) = itself h.marks
nothing_sent h (intent.Flag flag) = itself h.marks
nothing_sent h (intent.Raise flag) = itself h.marks
nothing_sent h intent.LoseCache = itself h.marks
nothing_sent h (intent.Read at) = itself h.marks
nothing_sent h (intent.ReadPage at) = itself h.marks
nothing_sent h (intent.Test at slot gives) = itself h.marks
nothing_sent h (intent.WritePage at) = itself h.marks
nothing_sent h (intent.Unregister at) = itself h.marks
nothing_sent h (intent.Change slot action frames) = itself h.marks
nothing_sent h (intent.Undo o at) = itself h.marks
nothing_sent h (intent.Commit slot) = itself h.marks
nothing_sent h intent.Append = itself h.marks
nothing_sent h (intent.NextChanged past) = itself h.marks
nothing_sent h (intent.CastoutRead page) = itself h.marks
nothing_sent h intent.CastoutWrite = itself h.marks
nothing_sent h intent.CastoutDone = itself h.marks
nothing_sent h intent.PhaseDone = itself h.marks

-- ---- calls of the disk
reads : (w v : Drive) (h k : Held) (page : PageId) (done : Result (Unit {0}) DiskError) (o : Option ℕ) → ReadsAs o w h page done v k → k.marks ≡ h.marks
reads w v h k page done None e = ap (λ (z : Held). z.marks) e.2
reads w v h k page done (Some at) e = by (nat_lt at (length h.pages)) e
  where
    by : (b : Bool) → ReadsFrame b w h at page done v k → k.marks ≡ h.marks
    by true r = ap (λ (z : Held). z.marks) r.1
    by false r = ap (λ (z : Held). z.marks) r.2

calls : (w v : Drive) (h k : Held) (i : Intent) (s : Sent) (done : Result (Unit {0}) DiskError) → Calls w h i s done v k → k.marks ≡ h.marks
calls w v h k i sent.None done e = ap (λ (z : Held). z.marks) e.2
calls w v h k i (sent.Command c) done e = ap (λ (z : Held). z.marks) e.2
calls w v h k i sent.AppendLog done e = ap (λ (z : Held). z.marks) e.1
calls w v h k i (sent.ReadPage page) done e = reads w v h k page done (frame_read i) e
calls w v h k i (sent.WritePage page) done e = ap (λ (z : Held). z.marks) e.1

stores : (h : Held) (i : Intent) → SameRoom h.marks (stored h i).marks
stores h intent.Step = itself h.marks
stores h (intent.Obtain o n m) = itself h.marks
stores h (intent.Grant o n m) = itself h.marks
stores h (intent.Ask o to n m) = itself h.marks
stores h (intent.Answers o n m asked) = itself h.marks
stores h (intent.Status member) = itself h.marks
stores h (intent.Take past) = itself h.marks
stores h (intent.Answer asker n m) = itself h.marks
stores h (intent.ReleaseLock o) = itself h.marks
stores h (intent.ReleasePage page) = itself h.marks
stores h (intent.Purge n) = itself h.marks
stores h (intent.End o) = itself h.marks
stores h (intent.Wait slot holder flag) = itself h.marks
stores h (intent.Unwait slot) = itself h.marks
stores h (intent.Waits slots) = itself h.marks
stores h (intent.Flag flag) = itself h.marks
stores h (intent.Raise flag) = itself h.marks
stores h intent.LoseCache = itself h.marks
stores h (intent.Read at) = itself h.marks
stores h (intent.ReadPage at) = filled h.marks at true
stores h (intent.Test at slot gives) = itself h.marks
stores h (intent.WritePage at) = itself h.marks
stores h (intent.Unregister at) = itself h.marks
stores h (intent.Change slot action frames) = itself h.marks
stores h (intent.Undo o at) = itself h.marks
stores h (intent.Commit slot) = itself h.marks
stores h intent.Append = append h.marks
stores h (intent.NextChanged past) = itself h.marks
stores h (intent.CastoutRead page) = itself h.marks
stores h intent.CastoutWrite = itself h.marks
stores h intent.CastoutDone = itself h.marks
stores h intent.PhaseDone = itself h.marks

stores_as : (h k : Held) (i : Intent) (done : Result (Unit {0}) DiskError) (a : Answered) (told : Told) → Stores h i done a told k → SameRoom h.marks k.marks
stores_as h k i (Ok x) a told e = moved_to h.marks k.marks (stored h i).marks (ap (λ (z : Held). z.marks) e.2) (stores h i)
stores_as h k i (Err disk_error.Failed) a told e = moved_to h.marks k.marks h.marks (ap (λ (z : Held). z.marks) e.2) (itself h.marks)
stores_as h k i (Err disk_error.NoMemory) a told e = absurd e

from_marks : (h mid k : Held) → mid.marks ≡ h.marks → SameRoom mid.marks k.marks → SameRoom h.marks k.marks
from_marks h mid k e q = subst (λ z. SameRoom z k.marks) e q

called : (w v : Drive) (h k : Held) (i : Intent) (s : Sent) (a : Answered) (told : Told) → RunsCall w h i s a told v k → SameRoom h.marks k.marks
called w v h k i s a told r = from_marks h r.after k (calls w v h r.after i s r.done r.calls) (stores_as r.after k i r.done a told r.stores)

-- ---- all that is sent
runs : (w v : World) (h k : Held) (i : Intent) (s : Sent) (p : Plan) (place : ℕ) (a : Answered) (told : Told) → Runs w h i s p place a told v k → SameRoom h.marks k.marks
runs w v h k i sent.None p place a told r = moved_to h.marks k.marks (unsent h i).marks (ap (λ (z : Held). z.marks) r.held) (nothing_sent h i)
runs w v h k i (sent.Command c) p place a told r =
    from_marks h r.0.after k (lends h r.0.after (lent_of h c) _ r.0.gives.executed.back)
    (settles_as r.0.after k i p v.facility.lists.waits r.0.answer (cells_for v.facility.lists.cells r.0.after.marks.member c) place told (waits_in i) r.0.settles)
runs w v h k i sent.AppendLog p place a told r = called w.drive v.drive h k i sent.AppendLog a told r.0
runs w v h k i (sent.ReadPage page) p place a told r = called w.drive v.drive h k i (sent.ReadPage page) a told r.0
runs w v h k i (sent.WritePage page) p place a told r = called w.drive v.drive h k i (sent.WritePage page) a told r.0

-- ---- the memory is taken, and the event begins
reserved_itself : (h k : Held) → k ≡ h → SameRoom h.marks k.marks
reserved_itself h k e = moved_to h.marks k.marks h.marks (ap (λ (z : Held). z.marks) e) (itself h.marks)

pub reserves : (i : Intent) (h k : Held) → Reserves i h k → SameRoom h.marks k.marks
reserves intent.Step h k e = reserved_itself h k e
reserves (intent.Obtain o n m) h k e = moved_to h.marks k.marks (record h.marks { locks = record h.marks.locks { spare = k.marks.locks.spare } }) (ap (λ (z : Held). z.marks) e.2) (record { frames = refl; slots = refl })
reserves (intent.Grant o n m) h k e = moved_to h.marks k.marks (record h.marks { locks = record h.marks.locks { spare = k.marks.locks.spare } }) (ap (λ (z : Held). z.marks) e.2) (record { frames = refl; slots = refl })
reserves (intent.Ask o to n m) h k e = reserved_itself h k e
reserves (intent.Answers o n m asked) h k e = reserved_itself h k e
reserves (intent.Status member) h k e = reserved_itself h k e
reserves (intent.Take past) h k e = reserved_itself h k e
reserves (intent.Answer asker n m) h k e = reserved_itself h k e
reserves (intent.ReleaseLock o) h k e = reserved_itself h k e
reserves (intent.ReleasePage page) h k e = reserved_itself h k e
reserves (intent.Purge n) h k e = reserved_itself h k e
reserves (intent.End o) h k e = reserved_itself h k e
reserves (intent.Wait slot holder flag) h k e = reserved_itself h k e
reserves (intent.Unwait slot) h k e = reserved_itself h k e
reserves (intent.Waits slots) h k e = reserved_itself h k e
reserves (intent.Flag flag) h k e = reserved_itself h k e
reserves (intent.Raise flag) h k e = reserved_itself h k e
reserves intent.LoseCache h k e = reserved_itself h k e
reserves (intent.Read at) h k e = reserved_itself h k e
reserves (intent.ReadPage at) h k e = reserved_itself h k e
reserves (intent.Test at slot gives) h k e = reserved_itself h k e
reserves (intent.WritePage at) h k e = reserved_itself h k e
reserves (intent.Unregister at) h k e = reserved_itself h k e
reserves (intent.Change slot action frames) h k e = moved_to h.marks k.marks (with_change_room h slot).marks (ap (λ (z : Held). z.marks) e) (record { frames = refl; slots = many_set h.marks.trans slot (with_room (slot_tran h.marks slot)) })
reserves (intent.Undo o at) h k e = reserved_itself h k e
reserves (intent.Commit slot) h k e = reserved_itself h k e
reserves intent.Append h k e = reserved_itself h k e
reserves (intent.NextChanged past) h k e = reserved_itself h k e
reserves (intent.CastoutRead page) h k e = reserved_itself h k e
reserves intent.CastoutWrite h k e = reserved_itself h k e
reserves intent.CastoutDone h k e = reserved_itself h k e
reserves intent.PhaseDone h k e = reserved_itself h k e

pub starts : (h : Held) (place : ℕ) → SameRoom h.marks (begun h place).marks
starts h place = of_trans h.marks (after_event h.marks.trans place) refl

pub events_keep : EventsKeep
events_keep w v h k i place s a e =
    on h.marks e.ready.marks k.marks (reserves i h e.ready e.reserves)
    (on e.ready.marks (begun e.ready place).marks k.marks (starts e.ready place)
    (on (begun e.ready place).marks e.after.marks k.marks (runs w v (begun e.ready place) e.after i s e.plan place a e.said e.runs) (locals_keep e.after.marks k.marks e.ends.0)))

-- ---- a member that holds nothing
pub rooms_begin : RoomsBegin
rooms_begin member sizes h new = record {
  frames = ap (λ (z : HeadState). length z.frames) new.marks.heads ∙ length-replicate sizes.pool free_frame;
  slots = ap (λ (z : TransState). length z.slots) new.marks.trans ∙ length-replicate (sizes.agents + 1) free_tran;
}
