-- A restart that hasn't read its log asks for no page's lock: no other member may keep one from it, and so it hands nothing over.
use Rattle.std.proofs.Common.{◌≡◌, ℕ, refl, sym, ◌∙◌, ap, subst, Bool, true, false, [], ◌∷◌, Option, Some, None, Result, Ok, Err}
use Rattle.std.specs.Prelude.{◌==◌, if◌then◌else◌, is_some, length}
use Rattle.ds_base.specs.declared.names.PageId.{PageId}
use Rattle.ds_model.specs.declared.lock.Name.TheVariants as name
use Rattle.ds_disk.specs.declared.disk.DiskError.{DiskError}
use Rattle.ds_disk.specs.declared.disk.DiskError.TheVariants as error
use Rattle.lock_names.specs.declared.mode.Mode.TheVariants.{X}
use Rattle.facility.specs.declared.command.Command.{Command}
use Rattle.facility.specs.declared.command.Command.TheVariants as command
use Rattle.facility.specs.declared.command.Reply.{Reply}
use Rattle.facility.specs.declared.command.Reply.TheVariants as reply
use Rattle.log_reader.specs.declared.calls.LogReply.{LogReply}
use Rattle.log_reader.specs.declared.calls.LogReply.TheVariants as logged
use Rattle.log_record.specs.declared.log.Log.{Log}
use Rattle.log_record.specs.Logs.{Parts}
use Rattle.log_trans.specs.declared.damage.Damaged.{Damaged}
use Rattle.log_trans.specs.Damage.{log_damage}
use Rattle.restart_records.specs.Given.{ReaderState, after_reply, is_whole, parts_read}
use Rattle.member_intents.specs.declared.outcome.Answered.{Answered}
use Rattle.restart_marks.specs.declared.intent.RestartIntent.{RestartIntent}
use Rattle.restart_marks.specs.declared.intent.RestartIntent.TheVariants as intent
use Rattle.restart_marks.specs.declared.intent.RestartSent.{RestartSent}
use Rattle.restart_marks.specs.declared.intent.RestartSent.TheVariants as sent
use Rattle.restart_marks.specs.declared.intent.RestartTest.TheVariants as test
use Rattle.restart_marks.specs.declared.marks.KeptBy.{KeptBy}
use Rattle.restart_marks.specs.declared.told.RestartTold.{RestartTold}
use Rattle.restart_marks.specs.Adopt.{adopted_by, adopted_told}
use Rattle.restart_marks.specs.LockNeeds.{commands, free_test, locks_in}
use Rattle.restart_marks.specs.Locks.{released_after, up_after}
use Rattle.restart_marks.specs.Needs.{need_of}
use Rattle.restart_marks.specs.OwnNeeds.{recovered_test}
use Rattle.restart_marks.specs.Reading.{judged_after, log_from, read_after, read_on_after, reader_after, whole_after}
use Rattle.restart_marks.specs.State.{RestartState, with_own}
use Rattle.restart_marks.specs.Tested.{Tested, after, passed, when}
use Rattle.restart_records.specs.Own.{own_with}
use Rattle.restart_records.specs.Trans.{page_undone}
use Rattle.restart_resources.specs.declared.calls.Got.{Got}
use Rattle.restart_resources.specs.declared.calls.Got.TheVariants as got
use Rattle.restart_resources.specs.Calls.{Calls, Drive, ReadsBy, RunsCall, Stores, done_after, got_after}
use Rattle.restart_resources.specs.Events as event
use Rattle.restart_resources.specs.Events.{Happens, Runs}
use Rattle.restart_resources.specs.Held.{Held}
use Rattle.restart_resources.specs.Lending.{is_hand, lent_bytes}
use Rattle.restart_resources.specs.Settled.{settled}
use Rattle.lock_restarts.specs.Courses.{IsInOrder}
use Rattle.lock_restarts.proofs.Courses.{lists_read, name_purged, page_purged}
use Rattle.lock_restarts.proofs.Near.{lists, locals, reads, tests, undoes}
use Rattle.lock_restarts.proofs.Sent.{err_ok, holds, when_first}
use Rattle.lock_restarts.proofs.Stands.{same_marks}

never : true ≡ false → ⊥
never e = cc

-- ---- what it waits for, behind a reply
abbrev Keeps : RestartState → RestartState → Type 0
Keeps s t = t.kept ≡ s.kept

released : (s : RestartState) (answer : Reply) → Keeps s (released_after s answer)
released s (reply.Granted version) = refl
released s (reply.Retained by) = refl
released s (reply.RecordsFull limit) = refl
released s (reply.Contention share exclusive version) = refl
released s (reply.Moved version) = refl
released s (reply.RetainedLock n mode) = refl
released s reply.Done = refl
released s reply.Nothing = refl
released s reply.Found = refl
released s reply.NoData = refl
released s reply.CacheFull = refl
released s reply.Lost = refl
released s reply.Written = refl
released s reply.Valid = refl
released s reply.Invalid = refl
released s reply.Taken = refl
released s reply.NotChanged = refl
released s (reply.Locked by) = refl
released s reply.NotHeld = refl
released s (reply.ChangedPage other) = refl
released s (reply.Query query) = refl
released s reply.Gone = refl
released s reply.Cells = refl
released s reply.Waits = refl
released s reply.Raised = refl
released s reply.NotRaised = refl
released s (reply.Status status) = refl
released s reply.NotLost = refl
released s (reply.ClaimTaken by) = refl
released s reply.Claimed = refl
released s (reply.Drawn lrsn) = refl
released s (reply.Stale index) = refl
released s (reply.LrsnEnd at) = refl

up : (s : RestartState) (answer : Reply) → Keeps s (up_after s answer)
up s (reply.Granted version) = refl
up s (reply.Retained by) = refl
up s (reply.RecordsFull limit) = refl
up s (reply.Contention share exclusive version) = refl
up s (reply.Moved version) = refl
up s (reply.RetainedLock n mode) = refl
up s reply.Done = refl
up s reply.Nothing = refl
up s reply.Found = refl
up s reply.NoData = refl
up s reply.CacheFull = refl
up s reply.Lost = refl
up s reply.Written = refl
up s reply.Valid = refl
up s reply.Invalid = refl
up s reply.Taken = refl
up s reply.NotChanged = refl
up s (reply.Locked by) = refl
up s reply.NotHeld = refl
up s (reply.ChangedPage other) = refl
up s (reply.Query query) = refl
up s reply.Gone = refl
up s reply.Cells = refl
up s reply.Waits = refl
up s reply.Raised = refl
up s reply.NotRaised = refl
up s (reply.Status status) = refl
up s reply.NotLost = refl
up s (reply.ClaimTaken by) = refl
up s reply.Claimed = refl
up s (reply.Drawn lrsn) = refl
up s (reply.Stale index) = refl
up s (reply.LrsnEnd at) = refl

abbrev IsUnread : RestartState → Type 0
IsUnread s = s.own.is_read ≡ false

unlisted : (s : RestartState) → IsInOrder s → IsUnread s → s.is_listed ≡ true → ⊥
unlisted s order unread listed = never (sym (order.listed listed) ∙ unread)

locks_listed : (s : RestartState) (f : PageId → Command) (x : RestartSent) (p : Option PageId) → commands f (locks_in s p) ≡ Ok x → s.is_listed ≡ true
locks_listed s f x None e = absurd (err_ok test.NoneStands x (Err test.NoneStands) refl e)
locks_listed s f x (Some page) e = by (recovered_test s) refl e
  where
    rest : Tested
    rest = when (length s.pages == 0) test.PagesLeft passed

    by : (t : Tested) → recovered_test s ≡ t → commands f (after t (after (free_test s page) (Ok page))) ≡ Ok x → s.is_listed ≡ true
    by (Ok y) is e = when_first s.is_listed test.NotListed rest (ap (λ (z : Tested). holds z) is)
    by (Err t) is e = absurd (err_ok t x (Err t) refl e)

settles : (h : Held) (i : RestartIntent) (x : RestartSent) (answer : Reply) → IsInOrder h.marks → IsUnread h.marks → need_of h.marks i ≡ Ok x → Keeps h.marks (settled h i answer).marks
settles h intent.Step x answer order unread e = refl
settles h intent.ReadLog x answer order unread e = refl
settles h intent.CutTail x answer order unread e = refl
settles h intent.RetainedAt x answer order unread e = (lists h.marks answer (lists_read h.marks x e)).kept
settles h intent.Read x answer order unread e = (reads h answer).kept
settles h intent.ReadPage x answer order unread e = refl
settles h intent.Test x answer order unread e = (tests h answer).kept
settles h intent.WritePage x answer order unread e = refl
settles h intent.PurgePage x answer order unread e = (page_purged h.marks answer).kept
settles h (intent.Purge n) x answer order unread e = (name_purged h.marks n answer).kept
settles h intent.Append x answer order unread e = refl
settles h (intent.Obtain id) x answer order unread e = absurd (unlisted h.marks order unread (locks_listed h.marks (λ page. command.Obtain (name.Page page) X) x (page_undone h.marks.trans id) e))
settles h (intent.Ask id to) x answer order unread e = refl
settles h (intent.Answers id asked) x answer order unread e = refl
settles h (intent.Grant id) x answer order unread e = absurd (unlisted h.marks order unread (locks_listed h.marks (λ page. command.Grant 0 (name.Page page) X) x (page_undone h.marks.trans id) e))
settles h (intent.Status m) x answer order unread e = refl
settles h (intent.Undo id) x answer order unread e = (undoes h id answer).kept
settles h intent.ReleasePage x answer order unread e = released h.marks answer
settles h intent.Unregister x answer order unread e = refl
settles h intent.Up x answer order unread e = up h.marks answer

from_marks : (h k : Held) (i : RestartIntent) (x : RestartSent) (answer : Reply) → k.marks ≡ h.marks → IsInOrder h.marks → IsUnread h.marks → need_of h.marks i ≡ Ok x → Keeps h.marks (settled k i answer).marks
from_marks h k i x answer same order unread e =
    settles k i x answer (subst (λ (z : RestartState). IsInOrder z) (sym same) order) (ap (λ (z : RestartState). z.own.is_read) same ∙ unread) (ap (λ (z : RestartState). need_of z i) same ∙ e)
    ∙ ap (λ (z : RestartState). z.kept) same

-- ---- the log is read
judged : (s : RestartState) (log : Log) (o : Option Damaged) → Keeps s (judged_after s log o)
judged s log None = refl
judged s log (Some d) = refl

whole : (s : RestartState) (m : ℕ) (p : Result Parts ℕ) → Keeps s (whole_after s m p)
whole s m (Err at) = refl
whole s m (Ok p) = judged s (log_from m p) (log_damage (log_from m p ∷ []))

read_by : (s : RestartState) (q : ReaderState) → Keeps s (read_after s q)
read_by s q = by (is_whole q)
  where
    by : (b : Bool) → Keeps s (if b then whole_after s q.member (parts_read q) else with_own s (own_with s.own (Some q)))
    by true = whole s q.member (parts_read q)
    by false = refl

reads_as : (s : RestartState) (o : Option ReaderState) (answer : LogReply) → Keeps s (reader_after s o answer)
reads_as s None answer = refl
reads_as s (Some r) answer = read_by (with_own s (own_with s.own None)) (after_reply r answer)

done_goes : (h : Held) (x : RestartSent) → Keeps h.marks (done_after h x).marks
done_goes h (sent.CutLog long) = refl
done_goes h sent.AppendLog = refl
done_goes h (sent.ReadPage page) = refl
done_goes h sent.None = refl
done_goes h (sent.Command c) = refl
done_goes h sent.LogLength = refl
done_goes h (sent.ReadLog at count) = refl

got_goes : (h : Held) (x : RestartSent) (g : Got) → Keeps h.marks (got_after h x g).marks
got_goes h x got.Done = done_goes h x
got_goes h x (got.Length n) = reads_as h.marks h.marks.own.reader (logged.Length n)
got_goes h x (got.Count n) = reads_as h.marks h.marks.own.reader (logged.Count n)

at_marks : (s : RestartState) (k m : Held) → k ≡ m → Keeps s m.marks → Keeps s k.marks
at_marks s k m e g = ap (λ (z : Held). z.marks.kept) e ∙ g

stores : (h k : Held) (x : RestartSent) (done : Result Got DiskError) (a : Answered) (said : RestartTold) → Stores h x done a said k → Keeps h.marks k.marks
stores h k x (Ok g) a said e = at_marks h.marks k (got_after h x g) e.2 (got_goes h x g)
stores h k x (Err error.Failed) a said e = at_marks h.marks k h e.2 refl
stores h k x (Err error.NoMemory) a said e = absurd e

reads_block : (o : Option ReaderState) (w v : Drive) (h k : Held) (at count : ℕ) (done : Result Got DiskError) → ReadsBy o w h at count done v k → Keeps h.marks k.marks
reads_block None w v h k at count done e = ap (λ (z : Held). z.marks.kept) e.2
reads_block (Some r) w v h k at count done e = ap (λ (z : Held). z.marks.kept) e.held

calls : (w v : Drive) (h k : Held) (x : RestartSent) (done : Result Got DiskError) → Calls w h x done v k → Keeps h.marks k.marks
calls w v h k sent.LogLength done e = ap (λ (z : Held). z.marks.kept) e.1
calls w v h k (sent.ReadLog at count) done e = reads_block h.marks.own.reader w v h k at count done e
calls w v h k (sent.CutLog long) done e = ap (λ (z : Held). z.marks.kept) e.1
calls w v h k sent.AppendLog done e = ap (λ (z : Held). z.marks.kept) e.1
calls w v h k (sent.ReadPage page) done e = ap (λ (z : Held). z.marks.kept) e.1
calls w v h k sent.None done e = ap (λ (z : Held). z.marks.kept) e.2
calls w v h k (sent.Command c) done e = ap (λ (z : Held). z.marks.kept) e.2

called : (w v : Drive) (h k : Held) (x : RestartSent) (a : Answered) (said : RestartTold) → RunsCall w h x a said v k → Keeps h.marks k.marks
called w v h k x a said r = stores r.after k x r.done a said r.stores ∙ calls w v h r.after x r.done r.calls

-- ---- any event
runs : (u v : event.World) (h k : Held) (i : RestartIntent) (x : RestartSent) (a : Answered) (said : RestartTold) → IsInOrder h.marks → IsUnread h.marks → need_of h.marks i ≡ Ok x → Runs u h i x a said v k → Keeps h.marks k.marks
runs u v h k i sent.None a said order unread lawful r = ap (λ (z : Held). z.marks.kept) r.held
runs u v h k i (sent.Command c) a said order unread lawful r =
    ap (λ (z : Held). z.marks.kept) r.0.settles
    ∙ from_marks h r.0.after i (sent.Command c) r.0.answer (same_marks h r.0.after (is_hand h c) (lent_bytes r.0.after (is_hand h c)) r.0.gives.executed.back) order unread lawful
runs u v h k i sent.LogLength a said order unread lawful r = called u.drive v.drive h k sent.LogLength a said r.0
runs u v h k i (sent.ReadLog at count) a said order unread lawful r = called u.drive v.drive h k (sent.ReadLog at count) a said r.0
runs u v h k i (sent.CutLog long) a said order unread lawful r = called u.drive v.drive h k (sent.CutLog long) a said r.0
runs u v h k i sent.AppendLog a said order unread lawful r = called u.drive v.drive h k sent.AppendLog a said r.0
runs u v h k i (sent.ReadPage page) a said order unread lawful r = called u.drive v.drive h k (sent.ReadPage page) a said r.0

nothing : (o : Option KeptBy) → (is_some o ≡ true → ⊥) → o ≡ None
nothing None without = refl
nothing (Some x) without = absurd (without refl)

-- what it waited for before is nothing, since its log isn't read
pub hands_nothing : (u v : event.World) (h k : Held) (x : RestartSent) (a : Answered) → Happens u h x a v k → IsInOrder h.marks → h.marks.own.is_read ≡ false → is_some (adopted_told k.marks) ≡ true → ⊥
hands_nothing u v h k x a e order unread hands = never (sym hands ∙ ap (λ (z : Option KeptBy). is_some (adopted_by k.marks z)) none)
  where
    none : k.marks.kept ≡ None
    none = (locals e.after.marks k.marks e.ends.0).kept ∙ runs u v h e.after e.intent x a e.said order unread e.lawful e.runs
        ∙ nothing h.marks.kept (λ some. never (sym (order.kept some) ∙ unread))
