-- What the answer to an intent leaves closed.
use Rattle.std.proofs.Common.{◌≡◌, ℕ, refl, sym, ◌∙◌, ap, subst, Bool, true, false, List, Option, Some, None, Result, Ok, Err}
use Rattle.std.specs.Prelude.{nat_lt, if◌then◌else◌, length}
use Rattle.ds_base.specs.declared.names.PageId.{PageId}
use Rattle.ds_disk.specs.declared.disk.DiskError.{DiskError}
use Rattle.ds_disk.specs.declared.disk.DiskError.TheVariants as disk_error
use Rattle.list_structure.specs.declared.query.Cell.{Cell}
use Rattle.list_structure.specs.declared.wait.Wait.{Wait}
use Rattle.facility.specs.declared.command.Reply.{Reply}
use Rattle.facility.specs.declared.command.Reply.TheVariants as reply
use Rattle.facility.specs.Commands.{cells_for}
use Rattle.member_intents.specs.declared.intent.Intent.{Intent}
use Rattle.member_intents.specs.declared.intent.Intent.TheVariants as intent
use Rattle.member_intents.specs.declared.outcome.Answered.{Answered}
use Rattle.member_intents.specs.declared.outcome.Sent.{Sent}
use Rattle.member_intents.specs.declared.outcome.Sent.TheVariants as sent
use Rattle.member_trans.specs.Trans.{after_event, with_room, with_tran}
use Rattle.member_marks.specs.State.{slot_tran}
use Rattle.member_needs.specs.declared.plans.Plan.{Plan}
use Rattle.member_effects.specs.declared.told.Told.{Told}
use Rattle.member_effects.specs.Answers.{summed, nothing}
use Rattle.member_resources.specs.declared.lending.Lent.{Lent}
use Rattle.member_resources.specs.declared.lending.Lent.TheVariants as lent
use Rattle.member_resources.specs.Held.{Held, begun, with_spare}
use Rattle.member_resources.specs.Events.{Drive, World, Calls, ReadsAs, ReadsFrame, Runs, RunsCall, RunsCommand, SettlesAs, Stores, frame_read, waits_in}
use Rattle.member_resources.specs.Lending.{lent_of, with_bytes}
use Rattle.member_resources.specs.Prepared.{HasSpare, Reserves, with_change_room}
use Rattle.member_resources.specs.Settled.{Settles, cast_read, kept_of, settled, stored, unsent}
use Rattle.facility.specs.declared.command.Command.{Command}
use Rattle.log_rows.specs.Rows.{BothTell}
use Rattle.member_trans.specs.declared.fate.Owner.TheVariants as owner
use Rattle.member_trans.specs.Trans.{is_drawn, is_forward, is_undoing, tran_of as tran_in}
use Rattle.member_marks.specs.State.{MarksState}
use Rattle.closing_law.proofs.Effects.{IsAbove, kept_found, kept_cycle, kept_filled, kept_read, kept_tested, kept_written, kept_unregistered, kept_purged, kept_drawn, kept_undone, kept_committed}
use Rattle.closing_law.proofs.Given.{kept_claimed, kept_ended, kept_ended_of, kept_page_released, kept_released}
use Rattle.ds_model.specs.Rows.{Spot}
use Rattle.page_plans.specs.declared.action.Action.{Action}
use Rattle.member_intents.specs.declared.intent.Frames.{Frames}
use Rattle.member_effects.specs.Changes.{drawn_after}
use Rattle.member_effects.specs.Puts.{reply_records}
use Rattle.closing_law.specs.Closing.{ChangedIn}
use Rattle.closing_law.proofs.Kept.{Adds, Kept, PutsRows, adds_as, kept_as, kept_itself, puts_as}

-- ---- what an intent asks of the stage of its transaction
abbrev pub Fits : MarksState → Intent → Type 0
Fits s intent.Step = Unit {0}
Fits s (intent.Obtain o n m) = Unit {0}
Fits s (intent.Grant o n m) = Unit {0}
Fits s (intent.Ask o to n m) = Unit {0}
Fits s (intent.Answers o n m asked) = Unit {0}
Fits s (intent.Status member) = Unit {0}
Fits s (intent.Take past) = Unit {0}
Fits s (intent.Answer asker n m) = Unit {0}
Fits s (intent.ReleaseLock o) = Unit {0}
Fits s (intent.ReleasePage page) = Unit {0}
Fits s (intent.Purge n) = Unit {0}
Fits s (intent.End o) = is_drawn (tran_in s.trans o).stage ≡ false
Fits s (intent.Wait slot holder flag) = Unit {0}
Fits s (intent.Unwait slot) = Unit {0}
Fits s (intent.Waits slots) = Unit {0}
Fits s (intent.Flag flag) = Unit {0}
Fits s (intent.Raise flag) = Unit {0}
Fits s intent.LoseCache = Unit {0}
Fits s (intent.Read at) = Unit {0}
Fits s (intent.ReadPage at) = Unit {0}
Fits s (intent.Test at slot gives) = Unit {0}
Fits s (intent.WritePage at) = Unit {0}
Fits s (intent.Unregister at) = Unit {0}
Fits s (intent.Change slot action frames) = is_forward (tran_in s.trans (owner.Slot slot)).stage ≡ true
Fits s (intent.Undo o at) = is_undoing (tran_in s.trans o).stage ≡ true
Fits s (intent.Commit slot) = is_forward (tran_in s.trans (owner.Slot slot)).stage ≡ true
Fits s intent.Append = Unit {0}
Fits s (intent.NextChanged past) = Unit {0}
Fits s (intent.CastoutRead page) = Unit {0}
Fits s intent.CastoutWrite = Unit {0}
Fits s intent.CastoutDone = Unit {0}
Fits s intent.PhaseDone = Unit {0}

-- what its command may draw is above what is on disk
abbrev pub AboveFor : Intent → ℕ → Reply → Type 0
AboveFor intent.Step low answer = Unit {0}
AboveFor (intent.Obtain o n m) low answer = Unit {0}
AboveFor (intent.Grant o n m) low answer = Unit {0}
AboveFor (intent.Ask o to n m) low answer = Unit {0}
AboveFor (intent.Answers o n m asked) low answer = Unit {0}
AboveFor (intent.Status member) low answer = Unit {0}
AboveFor (intent.Take past) low answer = Unit {0}
AboveFor (intent.Answer asker n m) low answer = Unit {0}
AboveFor (intent.ReleaseLock o) low answer = Unit {0}
AboveFor (intent.ReleasePage page) low answer = Unit {0}
AboveFor (intent.Purge n) low answer = Unit {0}
AboveFor (intent.End o) low answer = Unit {0}
AboveFor (intent.Wait slot holder flag) low answer = Unit {0}
AboveFor (intent.Unwait slot) low answer = Unit {0}
AboveFor (intent.Waits slots) low answer = Unit {0}
AboveFor (intent.Flag flag) low answer = Unit {0}
AboveFor (intent.Raise flag) low answer = Unit {0}
AboveFor intent.LoseCache low answer = Unit {0}
AboveFor (intent.Read at) low answer = Unit {0}
AboveFor (intent.ReadPage at) low answer = Unit {0}
AboveFor (intent.Test at slot gives) low answer = Unit {0}
AboveFor (intent.WritePage at) low answer = Unit {0}
AboveFor (intent.Unregister at) low answer = Unit {0}
AboveFor (intent.Change slot action frames) low answer = Unit {0}
AboveFor (intent.Undo o at) low answer = IsAbove low answer
AboveFor (intent.Commit slot) low answer = Unit {0}
AboveFor intent.Append low answer = Unit {0}
AboveFor (intent.NextChanged past) low answer = Unit {0}
AboveFor (intent.CastoutRead page) low answer = Unit {0}
AboveFor intent.CastoutWrite low answer = Unit {0}
AboveFor intent.CastoutDone low answer = Unit {0}
AboveFor intent.PhaseDone low answer = Unit {0}

-- an intent that changes no row
abbrev pub IsQuiet : Intent → Type 0
IsQuiet intent.Step = Unit {0}
IsQuiet (intent.Obtain o n m) = Unit {0}
IsQuiet (intent.Grant o n m) = Unit {0}
IsQuiet (intent.Ask o to n m) = Unit {0}
IsQuiet (intent.Answers o n m asked) = Unit {0}
IsQuiet (intent.Status member) = Unit {0}
IsQuiet (intent.Take past) = Unit {0}
IsQuiet (intent.Answer asker n m) = Unit {0}
IsQuiet (intent.ReleaseLock o) = Unit {0}
IsQuiet (intent.ReleasePage page) = Unit {0}
IsQuiet (intent.Purge n) = Unit {0}
IsQuiet (intent.End o) = Unit {0}
IsQuiet (intent.Wait slot holder flag) = Unit {0}
IsQuiet (intent.Unwait slot) = Unit {0}
IsQuiet (intent.Waits slots) = Unit {0}
IsQuiet (intent.Flag flag) = Unit {0}
IsQuiet (intent.Raise flag) = Unit {0}
IsQuiet intent.LoseCache = Unit {0}
IsQuiet (intent.Read at) = Unit {0}
IsQuiet (intent.ReadPage at) = Unit {0}
IsQuiet (intent.Test at slot gives) = Unit {0}
IsQuiet (intent.WritePage at) = Unit {0}
IsQuiet (intent.Unregister at) = Unit {0}
IsQuiet (intent.Change slot action frames) = ⊥
IsQuiet (intent.Undo o at) = Unit {0}
IsQuiet (intent.Commit slot) = Unit {0}
IsQuiet intent.Append = Unit {0}
IsQuiet (intent.NextChanged past) = Unit {0}
IsQuiet (intent.CastoutRead page) = Unit {0}
IsQuiet intent.CastoutWrite = Unit {0}
IsQuiet intent.CastoutDone = Unit {0}
IsQuiet intent.PhaseDone = Unit {0}

-- ---- replies
cast_kept : (h : Held) (page : PageId) (answer : Reply) → Kept h.marks (cast_read h page answer).marks
cast_kept h page (reply.Granted version) = kept_itself h.marks
cast_kept h page (reply.Retained by) = kept_itself h.marks
cast_kept h page (reply.RecordsFull limit) = kept_itself h.marks
cast_kept h page (reply.Contention share exclusive version) = kept_itself h.marks
cast_kept h page (reply.Moved version) = kept_itself h.marks
cast_kept h page (reply.RetainedLock name mode) = kept_itself h.marks
cast_kept h page reply.Done = kept_itself h.marks
cast_kept h page reply.Nothing = kept_itself h.marks
cast_kept h page reply.Found = kept_itself h.marks
cast_kept h page reply.NoData = kept_itself h.marks
cast_kept h page reply.CacheFull = kept_itself h.marks
cast_kept h page reply.Lost = kept_itself h.marks
cast_kept h page reply.Written = kept_itself h.marks
cast_kept h page reply.Valid = kept_itself h.marks
cast_kept h page reply.Invalid = kept_itself h.marks
cast_kept h page reply.Taken = kept_itself h.marks
cast_kept h page reply.NotChanged = kept_itself h.marks
cast_kept h page (reply.Locked by) = kept_itself h.marks
cast_kept h page reply.NotHeld = kept_itself h.marks
cast_kept h page (reply.ChangedPage other) = kept_itself h.marks
cast_kept h page (reply.Query query) = kept_itself h.marks
cast_kept h page reply.Gone = kept_itself h.marks
cast_kept h page reply.Cells = kept_itself h.marks
cast_kept h page reply.Waits = kept_itself h.marks
cast_kept h page reply.Raised = kept_itself h.marks
cast_kept h page reply.NotRaised = kept_itself h.marks
cast_kept h page (reply.Status status) = kept_itself h.marks
cast_kept h page reply.NotLost = kept_itself h.marks
cast_kept h page (reply.ClaimTaken by) = kept_itself h.marks
cast_kept h page reply.Claimed = kept_itself h.marks
cast_kept h page (reply.Drawn lrsn) = kept_itself h.marks
cast_kept h page (reply.Stale index) = kept_itself h.marks
cast_kept h page (reply.LrsnEnd at) = kept_itself h.marks

settles_kept : BothTell → (h k : Held) (i : Intent) (p : Plan) (answer : Reply) (cells : List Cell) (place : ℕ) → IsQuiet i → Fits h.marks i → AboveFor i h.marks.log.stable answer → Settles h i p answer cells place k → Adds h.marks k.marks (reply_records h.marks i p answer)
settles_kept law h k intent.Step p answer cells place quiet fits above e = kept_as h.marks k.marks (settled h intent.Step p answer cells place).marks (ap (λ (z : Held). z.marks) e) (kept_itself h.marks)
settles_kept law h k (intent.Obtain o n m) p answer cells place quiet fits above e = kept_claimed h.marks k.marks o n m answer place e.0
settles_kept law h k (intent.Grant o n m) p answer cells place quiet fits above e = kept_claimed h.marks k.marks o n m answer place e.0
settles_kept law h k (intent.Ask o to n m) p answer cells place quiet fits above e = kept_as h.marks k.marks (settled h (intent.Ask o to n m) p answer cells place).marks (ap (λ (z : Held). z.marks) e) (kept_itself h.marks)
settles_kept law h k (intent.Answers o n m asked) p answer cells place quiet fits above e = kept_as h.marks k.marks (settled h (intent.Answers o n m asked) p answer cells place).marks (ap (λ (z : Held). z.marks) e) (kept_found h.marks o n (summed cells 0 asked n m nothing).found)
settles_kept law h k (intent.Status member) p answer cells place quiet fits above e = kept_as h.marks k.marks (settled h (intent.Status member) p answer cells place).marks (ap (λ (z : Held). z.marks) e) (kept_itself h.marks)
settles_kept law h k (intent.Take past) p answer cells place quiet fits above e = kept_as h.marks k.marks (settled h (intent.Take past) p answer cells place).marks (ap (λ (z : Held). z.marks) e) (kept_itself h.marks)
settles_kept law h k (intent.Answer asker n m) p answer cells place quiet fits above e = kept_as h.marks k.marks (settled h (intent.Answer asker n m) p answer cells place).marks (ap (λ (z : Held). z.marks) e) (kept_itself h.marks)
settles_kept law h k (intent.ReleaseLock o) p answer cells place quiet fits above e = kept_as h.marks k.marks (settled h (intent.ReleaseLock o) p answer cells place).marks (ap (λ (z : Held). z.marks) e) (kept_released h.marks o answer)
settles_kept law h k (intent.ReleasePage page) p answer cells place quiet fits above e = kept_as h.marks k.marks (settled h (intent.ReleasePage page) p answer cells place).marks (ap (λ (z : Held). z.marks) e) (kept_page_released h.marks page answer)
settles_kept law h k (intent.Purge n) p answer cells place quiet fits above e = kept_as h.marks k.marks (settled h (intent.Purge n) p answer cells place).marks (ap (λ (z : Held). z.marks) e) (kept_purged h.marks n answer)
settles_kept law h k (intent.End o) p answer cells place quiet fits above e = kept_as h.marks k.marks (settled h (intent.End o) p answer cells place).marks (ap (λ (z : Held). z.marks) e) (kept_ended h.marks o answer fits)
settles_kept law h k (intent.Wait slot holder flag) p answer cells place quiet fits above e = kept_as h.marks k.marks (settled h (intent.Wait slot holder flag) p answer cells place).marks (ap (λ (z : Held). z.marks) e) (kept_itself h.marks)
settles_kept law h k (intent.Unwait slot) p answer cells place quiet fits above e = kept_as h.marks k.marks (settled h (intent.Unwait slot) p answer cells place).marks (ap (λ (z : Held). z.marks) e) (kept_itself h.marks)
settles_kept law h k (intent.Waits slots) p answer cells place quiet fits above e = kept_as h.marks k.marks (settled h (intent.Waits slots) p answer cells place).marks (ap (λ (z : Held). z.marks) e) (kept_itself h.marks)
settles_kept law h k (intent.Flag flag) p answer cells place quiet fits above e = kept_as h.marks k.marks (settled h (intent.Flag flag) p answer cells place).marks (ap (λ (z : Held). z.marks) e) (kept_itself h.marks)
settles_kept law h k (intent.Raise flag) p answer cells place quiet fits above e = kept_as h.marks k.marks (settled h (intent.Raise flag) p answer cells place).marks (ap (λ (z : Held). z.marks) e) (kept_itself h.marks)
settles_kept law h k intent.LoseCache p answer cells place quiet fits above e = kept_as h.marks k.marks (settled h intent.LoseCache p answer cells place).marks (ap (λ (z : Held). z.marks) e) (kept_itself h.marks)
settles_kept law h k (intent.Read at) p answer cells place quiet fits above e = kept_as h.marks k.marks (settled h (intent.Read at) p answer cells place).marks (ap (λ (z : Held). z.marks) e) (kept_read h.marks at answer)
settles_kept law h k (intent.ReadPage at) p answer cells place quiet fits above e = kept_as h.marks k.marks (settled h (intent.ReadPage at) p answer cells place).marks (ap (λ (z : Held). z.marks) e) (kept_itself h.marks)
settles_kept law h k (intent.Test at slot gives) p answer cells place quiet fits above e = kept_as h.marks k.marks (settled h (intent.Test at slot gives) p answer cells place).marks (ap (λ (z : Held). z.marks) e) (kept_tested h.marks h.pages at slot gives h.limit answer place)
settles_kept law h k (intent.WritePage at) p answer cells place quiet fits above e = kept_as h.marks k.marks (settled h (intent.WritePage at) p answer cells place).marks (ap (λ (z : Held). z.marks) e) (kept_written h.marks at answer)
settles_kept law h k (intent.Unregister at) p answer cells place quiet fits above e = kept_as h.marks k.marks (settled h (intent.Unregister at) p answer cells place).marks (ap (λ (z : Held). z.marks) e) (kept_unregistered h.marks at answer)
settles_kept law h k (intent.Change slot action frames) p answer cells place quiet fits above e = absurd quiet
settles_kept law h k (intent.Undo o at) p answer cells place quiet fits above e = adds_as h.marks k.marks (settled h (intent.Undo o at) p answer cells place).marks (reply_records h.marks (intent.Undo o at) p answer) (ap (λ (z : Held). z.marks) e) (kept_undone law (kept_of h) o at p answer place above fits)
settles_kept law h k (intent.Commit slot) p answer cells place quiet fits above e = adds_as h.marks k.marks (settled h (intent.Commit slot) p answer cells place).marks (reply_records h.marks (intent.Commit slot) p answer) (ap (λ (z : Held). z.marks) e) (kept_committed law h.marks slot answer place fits)
settles_kept law h k intent.Append p answer cells place quiet fits above e = kept_as h.marks k.marks (settled h intent.Append p answer cells place).marks (ap (λ (z : Held). z.marks) e) (kept_itself h.marks)
settles_kept law h k (intent.NextChanged past) p answer cells place quiet fits above e = kept_as h.marks k.marks (settled h (intent.NextChanged past) p answer cells place).marks (ap (λ (z : Held). z.marks) e) (kept_itself h.marks)
settles_kept law h k (intent.CastoutRead page) p answer cells place quiet fits above e = kept_as h.marks k.marks (settled h (intent.CastoutRead page) p answer cells place).marks (ap (λ (z : Held). z.marks) e) (cast_kept h page answer)
settles_kept law h k intent.CastoutWrite p answer cells place quiet fits above e = kept_as h.marks k.marks (settled h intent.CastoutWrite p answer cells place).marks (ap (λ (z : Held). z.marks) e) (kept_itself h.marks)
settles_kept law h k intent.CastoutDone p answer cells place quiet fits above e = kept_as h.marks k.marks (settled h intent.CastoutDone p answer cells place).marks (ap (λ (z : Held). z.marks) e) (kept_itself h.marks)
settles_kept law h k intent.PhaseDone p answer cells place quiet fits above e = kept_as h.marks k.marks (settled h intent.PhaseDone p answer cells place).marks (ap (λ (z : Held). z.marks) e) (kept_itself h.marks)

-- whatever was looked for
settled_kept : BothTell → (h k : Held) (i : Intent) (p : Plan) (waits : List Wait) (answer : Reply) (cells : List Cell) (place : ℕ) (told : Told) → IsQuiet i → Fits h.marks i → AboveFor i h.marks.log.stable answer → SettlesAs (waits_in i) h i p waits cells answer place told k
    → Adds h.marks k.marks (reply_records h.marks i p answer)
settled_kept law h k (intent.Waits slots) p waits answer cells place told quiet fits above e = kept_cycle h.marks k.marks waits slots place told e.0
settled_kept law h k i p waits answer cells place told quiet fits above e = settles_kept law h k i p answer cells place quiet fits above e.1

-- ---- the bytes that a command is lent
lent_kept : (h k : Held) (l : Lent) (page : List ℕ) → k ≡ with_bytes h l page → k.marks ≡ h.marks
lent_kept h k (lent.Frame at) page e = ap (λ (z : Held). z.marks) e
lent_kept h k lent.Buffer page e = ap (λ (z : Held). z.marks) e
lent_kept h k lent.Spare page e = ap (λ (z : Held). z.marks) e

-- ---- what sends nothing
unsent_kept : (h : Held) (i : Intent) → Fits h.marks i → Kept h.marks (unsent h i).marks
unsent_kept h intent.Step fits = kept_itself h.marks
unsent_kept h (intent.Obtain o n m) fits = kept_itself h.marks
unsent_kept h (intent.Grant o n m) fits = kept_itself h.marks
unsent_kept h (intent.Ask o to n m) fits = kept_itself h.marks
unsent_kept h (intent.Answers o n m asked) fits = kept_itself h.marks
unsent_kept h (intent.Status member) fits = kept_itself h.marks
unsent_kept h (intent.Take past) fits = kept_itself h.marks
unsent_kept h (intent.Answer asker n m) fits = kept_itself h.marks
unsent_kept h (intent.ReleaseLock o) fits = kept_itself h.marks
unsent_kept h (intent.ReleasePage page) fits = kept_itself h.marks
unsent_kept h (intent.Purge n) fits = kept_itself h.marks
unsent_kept h (intent.End o) fits = kept_ended_of h.marks o fits
unsent_kept h (intent.Wait slot holder flag) fits = kept_itself h.marks
unsent_kept h (intent.Unwait slot) fits = kept_itself h.marks
unsent_kept h (intent.Waits slots) fits = kept_itself h.marks
unsent_kept h (intent.Flag flag) fits = kept_itself h.marks
unsent_kept h (intent.Raise flag) fits = kept_itself h.marks
unsent_kept h intent.LoseCache fits = kept_itself h.marks
unsent_kept h (intent.Read at) fits = kept_itself h.marks
unsent_kept h (intent.ReadPage at) fits = kept_itself h.marks
unsent_kept h (intent.Test at slot gives) fits = kept_itself h.marks
unsent_kept h (intent.WritePage at) fits = kept_itself h.marks
unsent_kept h (intent.Unregister at) fits = kept_itself h.marks
unsent_kept h (intent.Change slot action frames) fits = kept_itself h.marks
unsent_kept h (intent.Undo o at) fits = kept_itself h.marks
unsent_kept h (intent.Commit slot) fits = kept_itself h.marks
unsent_kept h intent.Append fits = kept_itself h.marks
unsent_kept h (intent.NextChanged past) fits = kept_itself h.marks
unsent_kept h (intent.CastoutRead page) fits = kept_itself h.marks
unsent_kept h intent.CastoutWrite fits = kept_itself h.marks
unsent_kept h intent.CastoutDone fits = kept_itself h.marks
unsent_kept h intent.PhaseDone fits = kept_itself h.marks

-- ---- calls of the disk, but for the append
read_kept : (w v : Drive) (h k : Held) (page : PageId) (done : Result (Unit {0}) DiskError) (o : Option ℕ) → ReadsAs o w h page done v k → k.marks ≡ h.marks
read_kept w v h k page done None e = ap (λ (z : Held). z.marks) e.2
read_kept w v h k page done (Some at) e = by (nat_lt at (length h.pages)) e
  where
    by : (b : Bool) → ReadsFrame b w h at page done v k → k.marks ≡ h.marks
    by true r = ap (λ (z : Held). z.marks) r.1
    by false r = ap (λ (z : Held). z.marks) r.2

call_kept : (w v : Drive) (h k : Held) (i : Intent) (s : Sent) (done : Result (Unit {0}) DiskError) → Calls w h i s done v k → k.marks ≡ h.marks
call_kept w v h k i sent.None done e = ap (λ (z : Held). z.marks) e.2
call_kept w v h k i (sent.Command c) done e = ap (λ (z : Held). z.marks) e.2
call_kept w v h k i sent.AppendLog done e = ap (λ (z : Held). z.marks) e.1
call_kept w v h k i (sent.ReadPage page) done e = read_kept w v h k page done (frame_read i) e
call_kept w v h k i (sent.WritePage page) done e = ap (λ (z : Held). z.marks) e.1

abbrev pub IsOther : Intent → Type 0
IsOther intent.Step = Unit {0}
IsOther (intent.Obtain o n m) = Unit {0}
IsOther (intent.Grant o n m) = Unit {0}
IsOther (intent.Ask o to n m) = Unit {0}
IsOther (intent.Answers o n m asked) = Unit {0}
IsOther (intent.Status member) = Unit {0}
IsOther (intent.Take past) = Unit {0}
IsOther (intent.Answer asker n m) = Unit {0}
IsOther (intent.ReleaseLock o) = Unit {0}
IsOther (intent.ReleasePage page) = Unit {0}
IsOther (intent.Purge n) = Unit {0}
IsOther (intent.End o) = Unit {0}
IsOther (intent.Wait slot holder flag) = Unit {0}
IsOther (intent.Unwait slot) = Unit {0}
IsOther (intent.Waits slots) = Unit {0}
IsOther (intent.Flag flag) = Unit {0}
IsOther (intent.Raise flag) = Unit {0}
IsOther intent.LoseCache = Unit {0}
IsOther (intent.Read at) = Unit {0}
IsOther (intent.ReadPage at) = Unit {0}
IsOther (intent.Test at slot gives) = Unit {0}
IsOther (intent.WritePage at) = Unit {0}
IsOther (intent.Unregister at) = Unit {0}
IsOther (intent.Change slot action frames) = Unit {0}
IsOther (intent.Undo o at) = Unit {0}
IsOther (intent.Commit slot) = Unit {0}
IsOther intent.Append = ⊥
IsOther (intent.NextChanged past) = Unit {0}
IsOther (intent.CastoutRead page) = Unit {0}
IsOther intent.CastoutWrite = Unit {0}
IsOther intent.CastoutDone = Unit {0}
IsOther intent.PhaseDone = Unit {0}

stored_kept : (h : Held) (i : Intent) → IsOther i → Kept h.marks (stored h i).marks
stored_kept h intent.Step other = kept_itself h.marks
stored_kept h (intent.Obtain o n m) other = kept_itself h.marks
stored_kept h (intent.Grant o n m) other = kept_itself h.marks
stored_kept h (intent.Ask o to n m) other = kept_itself h.marks
stored_kept h (intent.Answers o n m asked) other = kept_itself h.marks
stored_kept h (intent.Status member) other = kept_itself h.marks
stored_kept h (intent.Take past) other = kept_itself h.marks
stored_kept h (intent.Answer asker n m) other = kept_itself h.marks
stored_kept h (intent.ReleaseLock o) other = kept_itself h.marks
stored_kept h (intent.ReleasePage page) other = kept_itself h.marks
stored_kept h (intent.Purge n) other = kept_itself h.marks
stored_kept h (intent.End o) other = kept_itself h.marks
stored_kept h (intent.Wait slot holder flag) other = kept_itself h.marks
stored_kept h (intent.Unwait slot) other = kept_itself h.marks
stored_kept h (intent.Waits slots) other = kept_itself h.marks
stored_kept h (intent.Flag flag) other = kept_itself h.marks
stored_kept h (intent.Raise flag) other = kept_itself h.marks
stored_kept h intent.LoseCache other = kept_itself h.marks
stored_kept h (intent.Read at) other = kept_itself h.marks
stored_kept h (intent.ReadPage at) other = kept_filled h.marks at true
stored_kept h (intent.Test at slot gives) other = kept_itself h.marks
stored_kept h (intent.WritePage at) other = kept_itself h.marks
stored_kept h (intent.Unregister at) other = kept_itself h.marks
stored_kept h (intent.Change slot action frames) other = kept_itself h.marks
stored_kept h (intent.Undo o at) other = kept_itself h.marks
stored_kept h (intent.Commit slot) other = kept_itself h.marks
stored_kept h intent.Append other = absurd other
stored_kept h (intent.NextChanged past) other = kept_itself h.marks
stored_kept h (intent.CastoutRead page) other = kept_itself h.marks
stored_kept h intent.CastoutWrite other = kept_itself h.marks
stored_kept h intent.CastoutDone other = kept_itself h.marks
stored_kept h intent.PhaseDone other = kept_itself h.marks

stores_kept : (h k : Held) (i : Intent) (done : Result (Unit {0}) DiskError) (a : Answered) (told : Told) → IsOther i → Stores h i done a told k → Kept h.marks k.marks
stores_kept h k i (Ok x) a told other e = kept_as h.marks k.marks (stored h i).marks (ap (λ (z : Held). z.marks) e.2) (stored_kept h i other)
stores_kept h k i (Err disk_error.Failed) a told other e = kept_as h.marks k.marks h.marks (ap (λ (z : Held). z.marks) e.2) (kept_itself h.marks)
stores_kept h k i (Err disk_error.NoMemory) a told other e = absurd e

from_marks : (h mid k : Held) → mid.marks ≡ h.marks → Kept mid.marks k.marks → Kept h.marks k.marks
from_marks h mid k e q = subst (λ z. Kept z k.marks) e q

pub called_kept : (w v : Drive) (h k : Held) (i : Intent) (s : Sent) (a : Answered) (told : Told) → IsOther i → RunsCall w h i s a told v k → Kept h.marks k.marks
called_kept w v h k i s a told other r = from_marks h r.after k (call_kept w v h r.after i s r.done r.calls) (stores_kept r.after k i r.done a told other r.stores)

pub nothing_kept : (h k : Held) (i : Intent) → Fits h.marks i → k ≡ unsent h i → Kept h.marks k.marks
nothing_kept h k i fits e = kept_as h.marks k.marks (unsent h i).marks (ap (λ (z : Held). z.marks) e) (unsent_kept h i fits)

-- a command of an intent that changes no row, where the number that it may draw is above the last one on disk
pub command_kept : BothTell → (w v : World) (h k : Held) (i : Intent) (c : Command) (p : Plan) (place : ℕ) (a : Answered) (told : Told) → IsQuiet i → Fits h.marks i → (r : RunsCommand w.facility h i c p place a told v.facility k) → AboveFor i h.marks.log.stable r.answer → Adds h.marks k.marks (reply_records h.marks i p r.answer)
command_kept law w v h k i c p place a told quiet fits r above =
    let same = lent_kept h r.after (lent_of h c) _ r.gives.executed.back in
    subst (λ (z : MarksState). Adds z k.marks (reply_records z i p r.answer)) same
    (settled_kept law r.after k i p v.facility.lists.waits r.answer (cells_for v.facility.lists.cells r.after.marks.member c) place told quiet
    (subst (λ (z : MarksState). Fits z i) (sym same) fits) (subst (λ (z : MarksState). AboveFor i z.log.stable r.answer) (sym same) above) r.settles)

-- and that of one which changes pages
change_puts : BothTell → (G : ℕ → Spot → Type 0) (h k : Held) (slot : ℕ) (action : Action) (frames : Frames) (p : Plan) (answer : Reply) (cells : List Cell) (place : ℕ) → is_forward (tran_in h.marks.trans (owner.Slot slot)).stage ≡ true
    → ((id : ℕ) (x : Spot) → ChangedIn (intent.Change slot action frames) p k.marks id x → G id x) → Settles h (intent.Change slot action frames) p answer cells place k
    → PutsRows G h.marks k.marks (reply_records h.marks (intent.Change slot action frames) p answer)
change_puts law G h k slot action frames p answer cells place forward give e =
    let marks : k.marks ≡ (drawn_after (kept_of h) slot frames p answer place).marks = ap (λ (z : Held). z.marks) e in
    puts_as G h.marks k.marks (drawn_after (kept_of h) slot frames p answer place).marks (reply_records h.marks (intent.Change slot action frames) p answer) marks
    (kept_drawn law G (kept_of h) slot frames p answer place forward (λ id x g. give id x (record {
      slot = slot;
      action = action;
      frames = frames;
      change = g.change;
      wanted = refl;
      planned = g.planned;
      row = g.row;
      named = ap (λ (z : MarksState). (slot_tran z slot).first) marks ∙ g.named;
    })))

pub command_puts : BothTell → (G : ℕ → Spot → Type 0) (w v : World) (h k : Held) (slot : ℕ) (action : Action) (frames : Frames) (c : Command) (p : Plan) (place : ℕ) (a : Answered) (told : Told) → is_forward (tran_in h.marks.trans (owner.Slot slot)).stage ≡ true
    → ((id : ℕ) (x : Spot) → ChangedIn (intent.Change slot action frames) p k.marks id x → G id x) → (r : RunsCommand w.facility h (intent.Change slot action frames) c p place a told v.facility k)
    → PutsRows G h.marks k.marks (reply_records h.marks (intent.Change slot action frames) p r.answer)
command_puts law G w v h k slot action frames c p place a told forward give r =
    let same = lent_kept h r.after (lent_of h c) _ r.gives.executed.back in
    subst (λ (z : MarksState). PutsRows G z k.marks (reply_records z (intent.Change slot action frames) p r.answer)) same
    (change_puts law G r.after k slot action frames p r.answer (cells_for v.facility.lists.cells r.after.marks.member c) place (subst (λ (z : MarksState). is_forward (tran_in z.trans (owner.Slot slot)).stage ≡ true) (sym same) forward) give r.settles.1)
