-- What an event leaves of the claims and of the slots, by its intent.
use Rattle.std.proofs.Common.{◌≡◌, ℕ, refl, sym, ◌∙◌, ap, subst, Bool, true, false, List, Option, Some, None, Result, Ok, Err}
use Rattle.std.specs.Prelude.{nat_lt, length}
use Rattle.ds_base.specs.declared.names.PageId.{PageId}
use Rattle.ds_disk.specs.declared.disk.DiskError.{DiskError}
use Rattle.ds_disk.specs.declared.disk.DiskError.TheVariants as disk_error
use Rattle.list_structure.specs.declared.query.Cell.{Cell}
use Rattle.list_structure.specs.declared.wait.Wait.{Wait}
use Rattle.facility.specs.declared.command.Reply.{Reply}
use Rattle.facility.specs.declared.command.Reply.TheVariants as reply
use Rattle.facility.specs.Commands.{cells_for}
use Rattle.member_intents.specs.declared.intent.Intent.{Intent}
use Rattle.member_intents.specs.declared.intent.Intent.TheVariants as intent
use Rattle.member_intents.specs.declared.outcome.Answered.{Answered}
use Rattle.member_intents.specs.declared.outcome.Sent.{Sent}
use Rattle.member_intents.specs.declared.outcome.Sent.TheVariants as sent
use Rattle.member_trans.specs.Trans.{after_event, with_room, with_tran}
use Rattle.member_marks.specs.State.{slot_tran}
use Rattle.member_effects.specs.Given.{Plan}
use Rattle.member_effects.specs.declared.told.Told.{Told}
use Rattle.member_effects.specs.Answers.{summed, nothing}
use Rattle.member_resources.specs.declared.lending.Lent.{Lent}
use Rattle.member_resources.specs.declared.lending.Lent.TheVariants as lent
use Rattle.member_resources.specs.Held.{Held, begun, with_spare}
use Rattle.member_resources.specs.Events.{Drive, World, Calls, ReadsAs, ReadsFrame, Runs, RunsCall, SettlesAs, Stores, frame_read, waits_in}
use Rattle.member_resources.specs.Lending.{lent_of, with_bytes}
use Rattle.member_resources.specs.Prepared.{HasSpare, Reserves, with_change_room}
use Rattle.member_resources.specs.Settled.{Settles, cast_read, kept_of, settled, stored, unsent}
use Rattle.marks_law.specs.Claims.{ClaimsStay, changes_claims}
use Rattle.marks_law.specs.Free.{FreeHoldNothing, FreeReach, FreeStay}
use Rattle.marks_law.specs.Slots.{SlotsReach, SlotsStay}
use Rattle.marks_law.specs.Transactions.{EventsStay, MarksStay}
use Rattle.marks_law.proofs.Free.{frees_kept}
use Rattle.marks_law.proofs.Staying.{stay_itself, stay_kept, stay_on, stay_same}
use Rattle.marks_law.proofs.Kept.{Kept, Stands, kept_itself, kept_as, kept_trans, same_slots, stands_as, stands_itself, stands_kept, stands_slots}
use Rattle.marks_law.proofs.Slots.{set_kept}
use Rattle.marks_law.proofs.Records.{kept_append}
use Rattle.marks_law.proofs.Effects.{kept_found, kept_cycle, kept_filled, kept_read, kept_tested, kept_written, kept_unregistered, kept_purged, kept_drawn, kept_undone, kept_committed}
use Rattle.marks_law.proofs.Given.{stands_claimed, stands_released, stands_page_released, stands_ended, stands_ended_of}

-- ---- replies
cast_kept : (h : Held) (page : PageId) (answer : Reply) → Kept h.marks (cast_read h page answer).marks
cast_kept h page (reply.Granted version) = kept_itself h.marks
cast_kept h page (reply.Retained by) = kept_itself h.marks
cast_kept h page (reply.RecordsFull limit) = kept_itself h.marks
cast_kept h page (reply.Contention share exclusive version) = kept_itself h.marks
cast_kept h page (reply.Moved version) = kept_itself h.marks
cast_kept h page (reply.RetainedLock name mode) = kept_itself h.marks
cast_kept h page reply.Done = kept_itself h.marks
cast_kept h page reply.Nothing = kept_itself h.marks
cast_kept h page reply.Found = kept_itself h.marks
cast_kept h page reply.NoData = kept_itself h.marks
cast_kept h page reply.CacheFull = kept_itself h.marks
cast_kept h page reply.Lost = kept_itself h.marks
cast_kept h page reply.Written = kept_itself h.marks
cast_kept h page reply.Valid = kept_itself h.marks
cast_kept h page reply.Invalid = kept_itself h.marks
cast_kept h page reply.Taken = kept_itself h.marks
cast_kept h page reply.NotChanged = kept_itself h.marks
cast_kept h page (reply.Locked by) = kept_itself h.marks
cast_kept h page reply.NotHeld = kept_itself h.marks
cast_kept h page (reply.ChangedPage other) = kept_itself h.marks
cast_kept h page (reply.Query query) = kept_itself h.marks
cast_kept h page reply.Gone = kept_itself h.marks
cast_kept h page reply.Cells = kept_itself h.marks
cast_kept h page reply.Waits = kept_itself h.marks
cast_kept h page reply.Raised = kept_itself h.marks
cast_kept h page reply.NotRaised = kept_itself h.marks
cast_kept h page (reply.Status status) = kept_itself h.marks
cast_kept h page reply.NotLost = kept_itself h.marks
cast_kept h page (reply.ClaimTaken by) = kept_itself h.marks
cast_kept h page reply.Claimed = kept_itself h.marks
cast_kept h page (reply.Drawn lrsn) = kept_itself h.marks
cast_kept h page (reply.Stale index) = kept_itself h.marks
cast_kept h page (reply.LrsnEnd at) = kept_itself h.marks

settles_kept : (h k : Held) (i : Intent) (p : Plan) (answer : Reply) (cells : List Cell) (place : ℕ) → changes_claims i ≡ false → Settles h i p answer cells place k → Kept h.marks k.marks
settles_kept h k intent.Step p answer cells place quiet e = kept_as h.marks k.marks (settled h intent.Step p answer cells place).marks (ap (λ (z : Held). z.marks) e) (kept_itself h.marks)
settles_kept h k (intent.Obtain o n m) p answer cells place never e = absurd cc
settles_kept h k (intent.Grant o n m) p answer cells place never e = absurd cc
settles_kept h k (intent.Ask o to n m) p answer cells place quiet e = kept_as h.marks k.marks (settled h (intent.Ask o to n m) p answer cells place).marks (ap (λ (z : Held). z.marks) e) (kept_itself h.marks)
settles_kept h k (intent.Answers o n m asked) p answer cells place quiet e = kept_as h.marks k.marks (settled h (intent.Answers o n m asked) p answer cells place).marks (ap (λ (z : Held). z.marks) e) (kept_found h.marks o n (summed cells 0 asked n m nothing).found)
settles_kept h k (intent.Status member) p answer cells place quiet e = kept_as h.marks k.marks (settled h (intent.Status member) p answer cells place).marks (ap (λ (z : Held). z.marks) e) (kept_itself h.marks)
settles_kept h k (intent.Take past) p answer cells place quiet e = kept_as h.marks k.marks (settled h (intent.Take past) p answer cells place).marks (ap (λ (z : Held). z.marks) e) (kept_itself h.marks)
settles_kept h k (intent.Answer asker n m) p answer cells place quiet e = kept_as h.marks k.marks (settled h (intent.Answer asker n m) p answer cells place).marks (ap (λ (z : Held). z.marks) e) (kept_itself h.marks)
settles_kept h k (intent.ReleaseLock o) p answer cells place never e = absurd cc
settles_kept h k (intent.ReleasePage page) p answer cells place never e = absurd cc
settles_kept h k (intent.Purge n) p answer cells place quiet e = kept_as h.marks k.marks (settled h (intent.Purge n) p answer cells place).marks (ap (λ (z : Held). z.marks) e) (kept_purged h.marks n answer)
settles_kept h k (intent.End o) p answer cells place never e = absurd cc
settles_kept h k (intent.Wait slot holder flag) p answer cells place quiet e = kept_as h.marks k.marks (settled h (intent.Wait slot holder flag) p answer cells place).marks (ap (λ (z : Held). z.marks) e) (kept_itself h.marks)
settles_kept h k (intent.Unwait slot) p answer cells place quiet e = kept_as h.marks k.marks (settled h (intent.Unwait slot) p answer cells place).marks (ap (λ (z : Held). z.marks) e) (kept_itself h.marks)
settles_kept h k (intent.Waits slots) p answer cells place quiet e = kept_as h.marks k.marks (settled h (intent.Waits slots) p answer cells place).marks (ap (λ (z : Held). z.marks) e) (kept_itself h.marks)
settles_kept h k (intent.Flag flag) p answer cells place quiet e = kept_as h.marks k.marks (settled h (intent.Flag flag) p answer cells place).marks (ap (λ (z : Held). z.marks) e) (kept_itself h.marks)
settles_kept h k (intent.Raise flag) p answer cells place quiet e = kept_as h.marks k.marks (settled h (intent.Raise flag) p answer cells place).marks (ap (λ (z : Held). z.marks) e) (kept_itself h.marks)
settles_kept h k intent.LoseCache p answer cells place quiet e = kept_as h.marks k.marks (settled h intent.LoseCache p answer cells place).marks (ap (λ (z : Held). z.marks) e) (kept_itself h.marks)
settles_kept h k (intent.Read at) p answer cells place quiet e = kept_as h.marks k.marks (settled h (intent.Read at) p answer cells place).marks (ap (λ (z : Held). z.marks) e) (kept_read h.marks at answer)
settles_kept h k (intent.ReadPage at) p answer cells place quiet e = kept_as h.marks k.marks (settled h (intent.ReadPage at) p answer cells place).marks (ap (λ (z : Held). z.marks) e) (kept_itself h.marks)
settles_kept h k (intent.Test at slot gives) p answer cells place quiet e = kept_as h.marks k.marks (settled h (intent.Test at slot gives) p answer cells place).marks (ap (λ (z : Held). z.marks) e) (kept_tested h.marks h.pages at slot gives h.limit answer place)
settles_kept h k (intent.WritePage at) p answer cells place quiet e = kept_as h.marks k.marks (settled h (intent.WritePage at) p answer cells place).marks (ap (λ (z : Held). z.marks) e) (kept_written h.marks at answer)
settles_kept h k (intent.Unregister at) p answer cells place quiet e = kept_as h.marks k.marks (settled h (intent.Unregister at) p answer cells place).marks (ap (λ (z : Held). z.marks) e) (kept_unregistered h.marks at answer)
settles_kept h k (intent.Change slot action frames) p answer cells place quiet e = kept_as h.marks k.marks (settled h (intent.Change slot action frames) p answer cells place).marks (ap (λ (z : Held). z.marks) e) (kept_drawn (kept_of h) slot frames p answer place)
settles_kept h k (intent.Undo o at) p answer cells place quiet e = kept_as h.marks k.marks (settled h (intent.Undo o at) p answer cells place).marks (ap (λ (z : Held). z.marks) e) (kept_undone (kept_of h) o at p answer place)
settles_kept h k (intent.Commit slot) p answer cells place quiet e = kept_as h.marks k.marks (settled h (intent.Commit slot) p answer cells place).marks (ap (λ (z : Held). z.marks) e) (kept_committed h.marks slot answer place)
settles_kept h k intent.Append p answer cells place quiet e = kept_as h.marks k.marks (settled h intent.Append p answer cells place).marks (ap (λ (z : Held). z.marks) e) (kept_itself h.marks)
settles_kept h k (intent.NextChanged past) p answer cells place quiet e = kept_as h.marks k.marks (settled h (intent.NextChanged past) p answer cells place).marks (ap (λ (z : Held). z.marks) e) (kept_itself h.marks)
settles_kept h k (intent.CastoutRead page) p answer cells place quiet e = kept_as h.marks k.marks (settled h (intent.CastoutRead page) p answer cells place).marks (ap (λ (z : Held). z.marks) e) (cast_kept h page answer)
settles_kept h k intent.CastoutWrite p answer cells place quiet e = kept_as h.marks k.marks (settled h intent.CastoutWrite p answer cells place).marks (ap (λ (z : Held). z.marks) e) (kept_itself h.marks)
settles_kept h k intent.CastoutDone p answer cells place quiet e = kept_as h.marks k.marks (settled h intent.CastoutDone p answer cells place).marks (ap (λ (z : Held). z.marks) e) (kept_itself h.marks)
settles_kept h k intent.PhaseDone p answer cells place quiet e = kept_as h.marks k.marks (settled h intent.PhaseDone p answer cells place).marks (ap (λ (z : Held). z.marks) e) (kept_itself h.marks)

settles_stand : (h k : Held) (i : Intent) (p : Plan) (answer : Reply) (cells : List Cell) (place : ℕ) → changes_claims i ≡ true → Settles h i p answer cells place k → Stands h.marks k.marks
settles_stand h k intent.Step p answer cells place so e = absurd cc
settles_stand h k (intent.Obtain o n m) p answer cells place so e = stands_claimed h.marks k.marks o n m answer place e.0
settles_stand h k (intent.Grant o n m) p answer cells place so e = stands_claimed h.marks k.marks o n m answer place e.0
settles_stand h k (intent.Ask o to n m) p answer cells place so e = absurd cc
settles_stand h k (intent.Answers o n m asked) p answer cells place so e = absurd cc
settles_stand h k (intent.Status member) p answer cells place so e = absurd cc
settles_stand h k (intent.Take past) p answer cells place so e = absurd cc
settles_stand h k (intent.Answer asker n m) p answer cells place so e = absurd cc
settles_stand h k (intent.ReleaseLock o) p answer cells place so e = stands_as h.marks k.marks _ (ap (λ (z : Held). z.marks) e) (stands_released h.marks o answer)
settles_stand h k (intent.ReleasePage page) p answer cells place so e = stands_as h.marks k.marks _ (ap (λ (z : Held). z.marks) e) (stands_page_released h.marks page answer)
settles_stand h k (intent.Purge n) p answer cells place so e = absurd cc
settles_stand h k (intent.End o) p answer cells place so e = stands_as h.marks k.marks _ (ap (λ (z : Held). z.marks) e) (stands_ended h.marks o answer)
settles_stand h k (intent.Wait slot holder flag) p answer cells place so e = absurd cc
settles_stand h k (intent.Unwait slot) p answer cells place so e = absurd cc
settles_stand h k (intent.Waits slots) p answer cells place so e = absurd cc
settles_stand h k (intent.Flag flag) p answer cells place so e = absurd cc
settles_stand h k (intent.Raise flag) p answer cells place so e = absurd cc
settles_stand h k intent.LoseCache p answer cells place so e = absurd cc
settles_stand h k (intent.Read at) p answer cells place so e = absurd cc
settles_stand h k (intent.ReadPage at) p answer cells place so e = absurd cc
settles_stand h k (intent.Test at slot gives) p answer cells place so e = absurd cc
settles_stand h k (intent.WritePage at) p answer cells place so e = absurd cc
settles_stand h k (intent.Unregister at) p answer cells place so e = absurd cc
settles_stand h k (intent.Change slot action frames) p answer cells place so e = absurd cc
settles_stand h k (intent.Undo o at) p answer cells place so e = absurd cc
settles_stand h k (intent.Commit slot) p answer cells place so e = absurd cc
settles_stand h k intent.Append p answer cells place so e = absurd cc
settles_stand h k (intent.NextChanged past) p answer cells place so e = absurd cc
settles_stand h k (intent.CastoutRead page) p answer cells place so e = absurd cc
settles_stand h k intent.CastoutWrite p answer cells place so e = absurd cc
settles_stand h k intent.CastoutDone p answer cells place so e = absurd cc
settles_stand h k intent.PhaseDone p answer cells place so e = absurd cc

-- whatever was looked for
settled_kept : (h k : Held) (i : Intent) (p : Plan) (waits : List Wait) (answer : Reply) (cells : List Cell) (place : ℕ) (told : Told) (o : Option ℕ) → changes_claims i ≡ false → SettlesAs o h i p waits cells answer place told k → Kept h.marks k.marks
settled_kept h k i p waits answer cells place told None quiet e = settles_kept h k i p answer cells place quiet e.1
settled_kept h k i p waits answer cells place told (Some slots) quiet e = kept_cycle h.marks k.marks waits slots place told e.0

settled_stand : (h k : Held) (i : Intent) (p : Plan) (waits : List Wait) (answer : Reply) (cells : List Cell) (place : ℕ) (told : Told) (o : Option ℕ) → changes_claims i ≡ true → SettlesAs o h i p waits cells answer place told k → Stands h.marks k.marks
settled_stand h k i p waits answer cells place told None so e = settles_stand h k i p answer cells place so e.1
settled_stand h k i p waits answer cells place told (Some slots) so e = stands_kept h.marks k.marks (kept_cycle h.marks k.marks waits slots place told e.0)

-- ---- the bytes that a command is lent
lent_kept : (h k : Held) (l : Lent) (page : List ℕ) → k ≡ with_bytes h l page → k.marks ≡ h.marks
lent_kept h k (lent.Frame at) page e = ap (λ (z : Held). z.marks) e
lent_kept h k lent.Buffer page e = ap (λ (z : Held). z.marks) e
lent_kept h k lent.Spare page e = ap (λ (z : Held). z.marks) e

-- ---- what sends nothing
unsent_kept : (h : Held) (i : Intent) → changes_claims i ≡ false → Kept h.marks (unsent h i).marks
unsent_kept h intent.Step quiet = kept_itself h.marks
unsent_kept h (intent.Obtain o n m) quiet = absurd cc
unsent_kept h (intent.Grant o n m) quiet = absurd cc
unsent_kept h (intent.Ask o to n m) quiet = kept_itself h.marks
unsent_kept h (intent.Answers o n m asked) quiet = kept_itself h.marks
unsent_kept h (intent.Status member) quiet = kept_itself h.marks
unsent_kept h (intent.Take past) quiet = kept_itself h.marks
unsent_kept h (intent.Answer asker n m) quiet = kept_itself h.marks
unsent_kept h (intent.ReleaseLock o) quiet = absurd cc
unsent_kept h (intent.ReleasePage page) quiet = absurd cc
unsent_kept h (intent.Purge n) quiet = kept_itself h.marks
unsent_kept h (intent.End o) quiet = absurd cc
unsent_kept h (intent.Wait slot holder flag) quiet = kept_itself h.marks
unsent_kept h (intent.Unwait slot) quiet = kept_itself h.marks
unsent_kept h (intent.Waits slots) quiet = kept_itself h.marks
unsent_kept h (intent.Flag flag) quiet = kept_itself h.marks
unsent_kept h (intent.Raise flag) quiet = kept_itself h.marks
unsent_kept h intent.LoseCache quiet = kept_itself h.marks
unsent_kept h (intent.Read at) quiet = kept_itself h.marks
unsent_kept h (intent.ReadPage at) quiet = kept_itself h.marks
unsent_kept h (intent.Test at slot gives) quiet = kept_itself h.marks
unsent_kept h (intent.WritePage at) quiet = kept_itself h.marks
unsent_kept h (intent.Unregister at) quiet = kept_itself h.marks
unsent_kept h (intent.Change slot action frames) quiet = kept_itself h.marks
unsent_kept h (intent.Undo o at) quiet = kept_itself h.marks
unsent_kept h (intent.Commit slot) quiet = kept_itself h.marks
unsent_kept h intent.Append quiet = kept_itself h.marks
unsent_kept h (intent.NextChanged past) quiet = kept_itself h.marks
unsent_kept h (intent.CastoutRead page) quiet = kept_itself h.marks
unsent_kept h intent.CastoutWrite quiet = kept_itself h.marks
unsent_kept h intent.CastoutDone quiet = kept_itself h.marks
unsent_kept h intent.PhaseDone quiet = kept_itself h.marks

unsent_stand : (h : Held) (i : Intent) → Stands h.marks (unsent h i).marks
unsent_stand h intent.Step = stands_itself h.marks
unsent_stand h (intent.Obtain o n m) = stands_itself h.marks
unsent_stand h (intent.Grant o n m) = stands_itself h.marks
unsent_stand h (intent.Ask o to n m) = stands_itself h.marks
unsent_stand h (intent.Answers o n m asked) = stands_itself h.marks
unsent_stand h (intent.Status member) = stands_itself h.marks
unsent_stand h (intent.Take past) = stands_itself h.marks
unsent_stand h (intent.Answer asker n m) = stands_itself h.marks
unsent_stand h (intent.ReleaseLock o) = stands_itself h.marks
unsent_stand h (intent.ReleasePage page) = stands_itself h.marks
unsent_stand h (intent.Purge n) = stands_itself h.marks
unsent_stand h (intent.End o) = stands_ended_of h.marks o
unsent_stand h (intent.Wait slot holder flag) = stands_itself h.marks
unsent_stand h (intent.Unwait slot) = stands_itself h.marks
unsent_stand h (intent.Waits slots) = stands_itself h.marks
unsent_stand h (intent.Flag flag) = stands_itself h.marks
unsent_stand h (intent.Raise flag) = stands_itself h.marks
unsent_stand h intent.LoseCache = stands_itself h.marks
unsent_stand h (intent.Read at) = stands_itself h.marks
unsent_stand h (intent.ReadPage at) = stands_itself h.marks
unsent_stand h (intent.Test at slot gives) = stands_itself h.marks
unsent_stand h (intent.WritePage at) = stands_itself h.marks
unsent_stand h (intent.Unregister at) = stands_itself h.marks
unsent_stand h (intent.Change slot action frames) = stands_itself h.marks
unsent_stand h (intent.Undo o at) = stands_itself h.marks
unsent_stand h (intent.Commit slot) = stands_itself h.marks
unsent_stand h intent.Append = stands_itself h.marks
unsent_stand h (intent.NextChanged past) = stands_itself h.marks
unsent_stand h (intent.CastoutRead page) = stands_itself h.marks
unsent_stand h intent.CastoutWrite = stands_itself h.marks
unsent_stand h intent.CastoutDone = stands_itself h.marks
unsent_stand h intent.PhaseDone = stands_itself h.marks

-- ---- calls of the disk
read_kept : (w v : Drive) (h k : Held) (page : PageId) (done : Result (Unit {0}) DiskError) (o : Option ℕ) → ReadsAs o w h page done v k → k.marks ≡ h.marks
read_kept w v h k page done None e = ap (λ (z : Held). z.marks) e.2
read_kept w v h k page done (Some at) e = by (nat_lt at (length h.pages)) e
  where
    by : (b : Bool) → ReadsFrame b w h at page done v k → k.marks ≡ h.marks
    by true r = ap (λ (z : Held). z.marks) r.1
    by false r = ap (λ (z : Held). z.marks) r.2

call_kept : (w v : Drive) (h k : Held) (i : Intent) (s : Sent) (done : Result (Unit {0}) DiskError) → Calls w h i s done v k → k.marks ≡ h.marks
call_kept w v h k i sent.None done e = ap (λ (z : Held). z.marks) e.2
call_kept w v h k i (sent.Command c) done e = ap (λ (z : Held). z.marks) e.2
call_kept w v h k i sent.AppendLog done e = ap (λ (z : Held). z.marks) e.1
call_kept w v h k i (sent.ReadPage page) done e = read_kept w v h k page done (frame_read i) e
call_kept w v h k i (sent.WritePage page) done e = ap (λ (z : Held). z.marks) e.1

stored_kept : (h : Held) (i : Intent) → Kept h.marks (stored h i).marks
stored_kept h intent.Step = kept_itself h.marks
stored_kept h (intent.Obtain o n m) = kept_itself h.marks
stored_kept h (intent.Grant o n m) = kept_itself h.marks
stored_kept h (intent.Ask o to n m) = kept_itself h.marks
stored_kept h (intent.Answers o n m asked) = kept_itself h.marks
stored_kept h (intent.Status member) = kept_itself h.marks
stored_kept h (intent.Take past) = kept_itself h.marks
stored_kept h (intent.Answer asker n m) = kept_itself h.marks
stored_kept h (intent.ReleaseLock o) = kept_itself h.marks
stored_kept h (intent.ReleasePage page) = kept_itself h.marks
stored_kept h (intent.Purge n) = kept_itself h.marks
stored_kept h (intent.End o) = kept_itself h.marks
stored_kept h (intent.Wait slot holder flag) = kept_itself h.marks
stored_kept h (intent.Unwait slot) = kept_itself h.marks
stored_kept h (intent.Waits slots) = kept_itself h.marks
stored_kept h (intent.Flag flag) = kept_itself h.marks
stored_kept h (intent.Raise flag) = kept_itself h.marks
stored_kept h intent.LoseCache = kept_itself h.marks
stored_kept h (intent.Read at) = kept_itself h.marks
stored_kept h (intent.ReadPage at) = kept_filled h.marks at true
stored_kept h (intent.Test at slot gives) = kept_itself h.marks
stored_kept h (intent.WritePage at) = kept_itself h.marks
stored_kept h (intent.Unregister at) = kept_itself h.marks
stored_kept h (intent.Change slot action frames) = kept_itself h.marks
stored_kept h (intent.Undo o at) = kept_itself h.marks
stored_kept h (intent.Commit slot) = kept_itself h.marks
stored_kept h intent.Append = kept_append h.marks
stored_kept h (intent.NextChanged past) = kept_itself h.marks
stored_kept h (intent.CastoutRead page) = kept_itself h.marks
stored_kept h intent.CastoutWrite = kept_itself h.marks
stored_kept h intent.CastoutDone = kept_itself h.marks
stored_kept h intent.PhaseDone = kept_itself h.marks

stores_kept : (h k : Held) (i : Intent) (done : Result (Unit {0}) DiskError) (a : Answered) (told : Told) → Stores h i done a told k → Kept h.marks k.marks
stores_kept h k i (Ok x) a told e = kept_as h.marks k.marks (stored h i).marks (ap (λ (z : Held). z.marks) e.2) (stored_kept h i)
stores_kept h k i (Err disk_error.Failed) a told e = kept_as h.marks k.marks h.marks (ap (λ (z : Held). z.marks) e.2) (kept_itself h.marks)
stores_kept h k i (Err disk_error.NoMemory) a told e = absurd e

from_marks : (h mid k : Held) → mid.marks ≡ h.marks → Kept mid.marks k.marks → Kept h.marks k.marks
from_marks h mid k e q = subst (λ z. Kept z k.marks) e q

called_kept : (w v : Drive) (h k : Held) (i : Intent) (s : Sent) (a : Answered) (told : Told) → RunsCall w h i s a told v k → Kept h.marks k.marks
called_kept w v h k i s a told r = from_marks h r.after k (call_kept w v h r.after i s r.done r.calls) (stores_kept r.after k i r.done a told r.stores)

-- ---- all that is sent
runs_kept : (w v : World) (h k : Held) (i : Intent) (s : Sent) (p : Plan) (place : ℕ) (a : Answered) (told : Told) → changes_claims i ≡ false → Runs w h i s p place a told v k → Kept h.marks k.marks
runs_kept w v h k i sent.None p place a told quiet r = kept_as h.marks k.marks (unsent h i).marks (ap (λ (z : Held). z.marks) r.held) (unsent_kept h i quiet)
runs_kept w v h k i (sent.Command c) p place a told quiet r =
    from_marks h r.0.after k (lent_kept h r.0.after (lent_of h c) _ r.0.gives.executed.back)
    (settled_kept r.0.after k i p v.facility.lists.waits r.0.answer (cells_for v.facility.lists.cells r.0.after.marks.member c) place told (waits_in i) quiet r.0.settles)
runs_kept w v h k i sent.AppendLog p place a told quiet r = called_kept w.drive v.drive h k i sent.AppendLog a told r.0
runs_kept w v h k i (sent.ReadPage page) p place a told quiet r = called_kept w.drive v.drive h k i (sent.ReadPage page) a told r.0
runs_kept w v h k i (sent.WritePage page) p place a told quiet r = called_kept w.drive v.drive h k i (sent.WritePage page) a told r.0

pub claims_stay : ClaimsStay
claims_stay w v h k i s p place a told quiet r =
    let kept = runs_kept w v h k i s p place a told quiet r in
    record { locks = kept.locks; member = kept.member }

runs_stand : (w v : World) (h k : Held) (i : Intent) (s : Sent) (p : Plan) (place : ℕ) (a : Answered) (told : Told) → changes_claims i ≡ true → Runs w h i s p place a told v k → Stands h.marks k.marks
runs_stand w v h k i sent.None p place a told so r = stands_as h.marks k.marks (unsent h i).marks (ap (λ (z : Held). z.marks) r.held) (unsent_stand h i)
runs_stand w v h k i (sent.Command c) p place a told so r =
    subst (λ z. Stands z k.marks) (lent_kept h r.0.after (lent_of h c) _ r.0.gives.executed.back)
    (settled_stand r.0.after k i p v.facility.lists.waits r.0.answer (cells_for v.facility.lists.cells r.0.after.marks.member c) place told (waits_in i) so r.0.settles)
runs_stand w v h k i sent.AppendLog p place a told so r = stands_kept h.marks k.marks (called_kept w.drive v.drive h k i sent.AppendLog a told r.0)
runs_stand w v h k i (sent.ReadPage page) p place a told so r = stands_kept h.marks k.marks (called_kept w.drive v.drive h k i (sent.ReadPage page) a told r.0)
runs_stand w v h k i (sent.WritePage page) p place a told so r = stands_kept h.marks k.marks (called_kept w.drive v.drive h k i (sent.WritePage page) a told r.0)

any_stand : (w v : World) (h k : Held) (i : Intent) (s : Sent) (p : Plan) (place : ℕ) (a : Answered) (told : Told) → Runs w h i s p place a told v k → Stands h.marks k.marks
any_stand w v h k i s p place a told r = by (changes_claims i) refl
  where
    by : (b : Bool) → changes_claims i ≡ b → Stands h.marks k.marks
    by true so = runs_stand w v h k i s p place a told so r
    by false quiet = stands_kept h.marks k.marks (runs_kept w v h k i s p place a told quiet r)

-- ---- the whole event
reserves_none : (h k : Held) → k ≡ h → Stands h.marks k.marks
reserves_none h k e = stands_as h.marks k.marks h.marks (ap (λ (z : Held). z.marks) e) (stands_itself h.marks)

with_room_stands : (h k : Held) → HasSpare h k → Stands h.marks k.marks
with_room_stands h k e = stands_as h.marks k.marks (with_spare h k.marks.locks.spare).marks (ap (λ (z : Held). z.marks) e.2) (record { agents = refl; slots = λ a. a; free = λ a. record { lists = a.lists; none = a.none } })

reserved : (i : Intent) (h k : Held) → Reserves i h k → Stands h.marks k.marks
reserved intent.Step h k e = reserves_none h k e
reserved (intent.Obtain o n m) h k e = with_room_stands h k e
reserved (intent.Grant o n m) h k e = with_room_stands h k e
reserved (intent.Ask o to n m) h k e = reserves_none h k e
reserved (intent.Answers o n m asked) h k e = reserves_none h k e
reserved (intent.Status member) h k e = reserves_none h k e
reserved (intent.Take past) h k e = reserves_none h k e
reserved (intent.Answer asker n m) h k e = reserves_none h k e
reserved (intent.ReleaseLock o) h k e = reserves_none h k e
reserved (intent.ReleasePage page) h k e = reserves_none h k e
reserved (intent.Purge n) h k e = reserves_none h k e
reserved (intent.End o) h k e = reserves_none h k e
reserved (intent.Wait slot holder flag) h k e = reserves_none h k e
reserved (intent.Unwait slot) h k e = reserves_none h k e
reserved (intent.Waits slots) h k e = reserves_none h k e
reserved (intent.Flag flag) h k e = reserves_none h k e
reserved (intent.Raise flag) h k e = reserves_none h k e
reserved intent.LoseCache h k e = reserves_none h k e
reserved (intent.Read at) h k e = reserves_none h k e
reserved (intent.ReadPage at) h k e = reserves_none h k e
reserved (intent.Test at slot gives) h k e = reserves_none h k e
reserved (intent.WritePage at) h k e = reserves_none h k e
reserved (intent.Unregister at) h k e = reserves_none h k e
reserved (intent.Change slot action frames) h k e = stands_as h.marks k.marks (with_change_room h slot).marks (ap (λ (z : Held). z.marks) e)
    (stands_kept h.marks (with_change_room h slot).marks (kept_trans h.marks (with_tran h.marks.trans slot (with_room (slot_tran h.marks slot)))
    (λ a. set_kept h.marks.trans h.marks.locks.agents slot (with_room (slot_tran h.marks slot)) a refl) (frees_kept h.marks.trans slot (with_room (slot_tran h.marks slot)) refl) (stay_kept h.marks.trans slot (with_room (slot_tran h.marks slot)) refl refl)))
reserved (intent.Undo o at) h k e = reserves_none h k e
reserved (intent.Commit slot) h k e = reserves_none h k e
reserved intent.Append h k e = reserves_none h k e
reserved (intent.NextChanged past) h k e = reserves_none h k e
reserved (intent.CastoutRead page) h k e = reserves_none h k e
reserved intent.CastoutWrite h k e = reserves_none h k e
reserved intent.CastoutDone h k e = reserves_none h k e
reserved intent.PhaseDone h k e = reserves_none h k e

pub slots_stay : SlotsReach → SlotsStay
slots_stay reach w v h k i place s a happens slots =
    let ready = stands_slots h.marks happens.ready.marks (reserved i h happens.ready happens.reserves) slots in
    let new = same_slots happens.ready.marks.trans (after_event happens.ready.marks.trans place) happens.ready.marks.locks.agents ready refl refl in
    reach happens.after.marks k.marks happens.ends.0 (stands_slots (begun happens.ready place).marks happens.after.marks (any_stand w v (begun happens.ready place) happens.after i s happens.plan place a happens.said happens.runs) new)

pub free_stay : FreeReach → FreeStay
free_stay reach w v h k i place s a happens free =
    let ready : FreeHoldNothing happens.ready.marks = (reserved i h happens.ready happens.reserves).free free in
    let new : FreeHoldNothing (begun happens.ready place).marks = record { lists = ready.lists; none = ready.none } in
    reach happens.after.marks k.marks happens.ends.0 ((any_stand w v (begun happens.ready place) happens.after i s happens.plan place a happens.said happens.runs).free new)

-- ---- transactions stay
reserves_same : (h k : Held) → k ≡ h → MarksStay h.marks k.marks
reserves_same h k e = subst (λ (z : Held). MarksStay h.marks z.marks) (sym e) (record { locks = refl; trans = stay_itself h.marks.trans })

reserves_stay : (i : Intent) (h k : Held) → changes_claims i ≡ false → Reserves i h k → MarksStay h.marks k.marks
reserves_stay intent.Step h k quiet e = reserves_same h k e
reserves_stay (intent.Obtain o n m) h k quiet e = absurd cc
reserves_stay (intent.Grant o n m) h k quiet e = absurd cc
reserves_stay (intent.Ask o to n m) h k quiet e = reserves_same h k e
reserves_stay (intent.Answers o n m asked) h k quiet e = reserves_same h k e
reserves_stay (intent.Status member) h k quiet e = reserves_same h k e
reserves_stay (intent.Take past) h k quiet e = reserves_same h k e
reserves_stay (intent.Answer asker n m) h k quiet e = reserves_same h k e
reserves_stay (intent.ReleaseLock o) h k quiet e = absurd cc
reserves_stay (intent.ReleasePage page) h k quiet e = absurd cc
reserves_stay (intent.Purge n) h k quiet e = reserves_same h k e
reserves_stay (intent.End o) h k quiet e = absurd cc
reserves_stay (intent.Wait slot holder flag) h k quiet e = reserves_same h k e
reserves_stay (intent.Unwait slot) h k quiet e = reserves_same h k e
reserves_stay (intent.Waits slots) h k quiet e = reserves_same h k e
reserves_stay (intent.Flag flag) h k quiet e = reserves_same h k e
reserves_stay (intent.Raise flag) h k quiet e = reserves_same h k e
reserves_stay intent.LoseCache h k quiet e = reserves_same h k e
reserves_stay (intent.Read at) h k quiet e = reserves_same h k e
reserves_stay (intent.ReadPage at) h k quiet e = reserves_same h k e
reserves_stay (intent.Test at slot gives) h k quiet e = reserves_same h k e
reserves_stay (intent.WritePage at) h k quiet e = reserves_same h k e
reserves_stay (intent.Unregister at) h k quiet e = reserves_same h k e
reserves_stay (intent.Change slot action frames) h k quiet e = subst (λ (z : Held). MarksStay h.marks z.marks) (sym e) (record { locks = refl; trans = stay_kept h.marks.trans slot (with_room (slot_tran h.marks slot)) refl refl })
reserves_stay (intent.Undo o at) h k quiet e = reserves_same h k e
reserves_stay (intent.Commit slot) h k quiet e = reserves_same h k e
reserves_stay intent.Append h k quiet e = reserves_same h k e
reserves_stay (intent.NextChanged past) h k quiet e = reserves_same h k e
reserves_stay (intent.CastoutRead page) h k quiet e = reserves_same h k e
reserves_stay intent.CastoutWrite h k quiet e = reserves_same h k e
reserves_stay intent.CastoutDone h k quiet e = reserves_same h k e
reserves_stay intent.PhaseDone h k quiet e = reserves_same h k e

pub events_stay : EventsStay
events_stay w v h ready k i s p place a told quiet e r =
    let first = reserves_stay i h ready quiet e in
    let kept = runs_kept w v (begun ready place) k i s p place a told quiet r in record {
      locks = kept.locks ∙ first.locks;
      trans = stay_on h.marks.trans ready.marks.trans k.marks.trans first.trans
          (stay_on ready.marks.trans (begun ready place).marks.trans k.marks.trans (stay_same ready.marks.trans (begun ready place).marks.trans refl refl) kept.stays);
    }
