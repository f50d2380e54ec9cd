-- How a restart goes on behind any event of it.
use Rattle.std.proofs.Common.{◌≡◌, ℕ, refl, sym, ◌∙◌, ap, subst, true, Option, Some, None, Ok, Err}
use Rattle.std.specs.Prelude.{◌==◌, length, not}
use Rattle.ds_base.specs.declared.names.PageId.{PageId}
use Rattle.ds_model.specs.declared.lock.Name.{Name}
use Rattle.ds_model.specs.declared.lock.Name.TheVariants as name
use Rattle.lock_names.specs.declared.mode.Mode.TheVariants.{X}
use Rattle.facility.specs.declared.command.Command.{Command}
use Rattle.facility.specs.declared.command.Command.TheVariants as command
use Rattle.facility.specs.declared.command.Reply.{Reply}
use Rattle.facility.specs.declared.command.Reply.TheVariants as reply
use Rattle.member_intents.specs.declared.outcome.Answered.{Answered}
use Rattle.restart_records.specs.Trans.{TransState, no_trans, page_undone}
use Rattle.restart_marks.specs.declared.intent.RestartIntent.{RestartIntent}
use Rattle.restart_marks.specs.declared.intent.RestartIntent.TheVariants as intent
use Rattle.restart_marks.specs.declared.intent.RestartSent.{RestartSent}
use Rattle.restart_marks.specs.declared.intent.RestartSent.TheVariants as sent
use Rattle.restart_marks.specs.declared.intent.RestartTest.TheVariants as test
use Rattle.restart_marks.specs.declared.told.RestartTold.{RestartTold}
use Rattle.restart_marks.specs.Listing.{name_purged_after, page_purged_after}
use Rattle.restart_marks.specs.LockNeeds.{commands, free_test, locks_in}
use Rattle.restart_marks.specs.Locks.{claim_after, released_after, up_after}
use Rattle.restart_marks.specs.Needs.{need_of}
use Rattle.restart_marks.specs.OwnNeeds.{is_end_listed, recovered_test}
use Rattle.restart_marks.specs.State.{RestartState}
use Rattle.restart_marks.specs.Tested.{Tested, after, passed, when}
use Rattle.restart_resources.specs.Events as event
use Rattle.restart_resources.specs.Events.{Runs}
use Rattle.restart_resources.specs.Held.{Held}
use Rattle.restart_resources.specs.Lending.{is_hand, lent_bytes}
use Rattle.restart_resources.specs.Settled.{settled}
use Rattle.lock_restarts.specs.Courses.{Follows, RestartsFollow}
use Rattle.lock_restarts.proofs.Near.{Near, freed, lists, locals, near, near_follows, reads, tests, undoes}
use Rattle.lock_restarts.proofs.Reading.{calls}
use Rattle.lock_restarts.proofs.Sent.{after_first, err_ok, holds, when_first}
use Rattle.lock_restarts.proofs.Stands.{same_marks}

pub follows_on : (s t u : RestartState) → Follows s t → Follows t u → Follows s u
follows_on s t u a b = record {
  member = b.member ∙ a.member;
  order = λ o. b.order (a.order o);
  handed = λ o h. b.handed (a.order o) (a.handed o h);
}

follows : (s : RestartState) → Follows s s
follows s = near_follows s s (near s)

-- ---- retained records that are freed
pub page_purged : (s : RestartState) (answer : Reply) → Near s (page_purged_after s answer)
page_purged s reply.Done = freed s s.hand.key
page_purged s (reply.Granted version) = near s
page_purged s (reply.Retained by) = near s
page_purged s (reply.RecordsFull limit) = near s
page_purged s (reply.Contention share exclusive version) = near s
page_purged s (reply.Moved version) = near s
page_purged s (reply.RetainedLock n mode) = near s
page_purged s reply.Nothing = near s
page_purged s reply.Found = near s
page_purged s reply.NoData = near s
page_purged s reply.CacheFull = near s
page_purged s reply.Lost = near s
page_purged s reply.Written = near s
page_purged s reply.Valid = near s
page_purged s reply.Invalid = near s
page_purged s reply.Taken = near s
page_purged s reply.NotChanged = near s
page_purged s (reply.Locked by) = near s
page_purged s reply.NotHeld = near s
page_purged s (reply.ChangedPage other) = near s
page_purged s (reply.Query query) = near s
page_purged s reply.Gone = near s
page_purged s reply.Cells = near s
page_purged s reply.Waits = near s
page_purged s reply.Raised = near s
page_purged s reply.NotRaised = near s
page_purged s (reply.Status status) = near s
page_purged s reply.NotLost = near s
page_purged s (reply.ClaimTaken by) = near s
page_purged s reply.Claimed = near s
page_purged s (reply.Drawn lrsn) = near s
page_purged s (reply.Stale index) = near s
page_purged s (reply.LrsnEnd at) = near s

pub name_purged : (s : RestartState) (n : Name) (answer : Reply) → Near s (name_purged_after s n answer)
name_purged s n reply.Done = near s
name_purged s n (reply.Granted version) = near s
name_purged s n (reply.Retained by) = near s
name_purged s n (reply.RecordsFull limit) = near s
name_purged s n (reply.Contention share exclusive version) = near s
name_purged s n (reply.Moved version) = near s
name_purged s n (reply.RetainedLock other mode) = near s
name_purged s n reply.Nothing = near s
name_purged s n reply.Found = near s
name_purged s n reply.NoData = near s
name_purged s n reply.CacheFull = near s
name_purged s n reply.Lost = near s
name_purged s n reply.Written = near s
name_purged s n reply.Valid = near s
name_purged s n reply.Invalid = near s
name_purged s n reply.Taken = near s
name_purged s n reply.NotChanged = near s
name_purged s n (reply.Locked by) = near s
name_purged s n reply.NotHeld = near s
name_purged s n (reply.ChangedPage other) = near s
name_purged s n (reply.Query query) = near s
name_purged s n reply.Gone = near s
name_purged s n reply.Cells = near s
name_purged s n reply.Waits = near s
name_purged s n reply.Raised = near s
name_purged s n reply.NotRaised = near s
name_purged s n (reply.Status status) = near s
name_purged s n reply.NotLost = near s
name_purged s n (reply.ClaimTaken by) = near s
name_purged s n reply.Claimed = near s
name_purged s n (reply.Drawn lrsn) = near s
name_purged s n (reply.Stale index) = near s
name_purged s n (reply.LrsnEnd at) = near s

-- ---- the page's lock, and the end
unkept : (s : RestartState) → Follows s (record s { kept = None })
unkept s = record {
  member = refl;
  order = λ o. record { reader = o.reader; listed = o.listed; kept = λ never. absurd cc };
  handed = λ o h. record { read = h.read; unclaimed = h.unclaimed; none_open = h.none_open };
}

none_undone : (t : TransState) (id : ℕ) → t ≡ no_trans → page_undone t id ≡ None
none_undone t id e = ap (λ (z : TransState). page_undone z id) e

claims : (s : RestartState) (id : ℕ) (answer : Reply) → s.is_listed ≡ true → Follows s (claim_after s id answer)
claims s id (reply.Granted version) listed = record {
  member = refl;
  order = λ o. record { reader = o.reader; listed = o.listed; kept = λ never. absurd cc };
  handed = λ o h. record { read = h.read; unclaimed = none_undone s.trans id h.none_open; none_open = h.none_open };
}
claims s id (reply.Retained by) listed = record {
  member = refl;
  order = λ o. record { reader = o.reader; listed = o.listed; kept = λ _. o.listed listed };
  handed = λ o h. record { read = h.read; unclaimed = h.unclaimed; none_open = h.none_open };
}
claims s id (reply.RecordsFull limit) listed = unkept s
claims s id (reply.Contention share exclusive version) listed = unkept s
claims s id (reply.Moved version) listed = unkept s
claims s id (reply.RetainedLock n mode) listed = unkept s
claims s id reply.Done listed = unkept s
claims s id reply.Nothing listed = unkept s
claims s id reply.Found listed = unkept s
claims s id reply.NoData listed = unkept s
claims s id reply.CacheFull listed = unkept s
claims s id reply.Lost listed = unkept s
claims s id reply.Written listed = unkept s
claims s id reply.Valid listed = unkept s
claims s id reply.Invalid listed = unkept s
claims s id reply.Taken listed = unkept s
claims s id reply.NotChanged listed = unkept s
claims s id (reply.Locked by) listed = unkept s
claims s id reply.NotHeld listed = unkept s
claims s id (reply.ChangedPage other) listed = unkept s
claims s id (reply.Query query) listed = unkept s
claims s id reply.Gone listed = unkept s
claims s id reply.Cells listed = unkept s
claims s id reply.Waits listed = unkept s
claims s id reply.Raised listed = unkept s
claims s id reply.NotRaised listed = unkept s
claims s id (reply.Status status) listed = unkept s
claims s id reply.NotLost listed = unkept s
claims s id (reply.ClaimTaken by) listed = unkept s
claims s id reply.Claimed listed = unkept s
claims s id (reply.Drawn lrsn) listed = unkept s
claims s id (reply.Stale index) listed = unkept s
claims s id (reply.LrsnEnd at) listed = unkept s

releases : (s : RestartState) (answer : Reply) → Follows s (released_after s answer)
releases s reply.Done = record {
  member = refl;
  order = λ o. record { reader = o.reader; listed = o.listed; kept = o.kept };
  handed = λ o h. record { read = h.read; unclaimed = refl; none_open = h.none_open };
}
releases s (reply.Granted version) = follows s
releases s (reply.Retained by) = follows s
releases s (reply.RecordsFull limit) = follows s
releases s (reply.Contention share exclusive version) = follows s
releases s (reply.Moved version) = follows s
releases s (reply.RetainedLock n mode) = follows s
releases s reply.Nothing = follows s
releases s reply.Found = follows s
releases s reply.NoData = follows s
releases s reply.CacheFull = follows s
releases s reply.Lost = follows s
releases s reply.Written = follows s
releases s reply.Valid = follows s
releases s reply.Invalid = follows s
releases s reply.Taken = follows s
releases s reply.NotChanged = follows s
releases s (reply.Locked by) = follows s
releases s reply.NotHeld = follows s
releases s (reply.ChangedPage other) = follows s
releases s (reply.Query query) = follows s
releases s reply.Gone = follows s
releases s reply.Cells = follows s
releases s reply.Waits = follows s
releases s reply.Raised = follows s
releases s reply.NotRaised = follows s
releases s (reply.Status status) = follows s
releases s reply.NotLost = follows s
releases s (reply.ClaimTaken by) = follows s
releases s reply.Claimed = follows s
releases s (reply.Drawn lrsn) = follows s
releases s (reply.Stale index) = follows s
releases s (reply.LrsnEnd at) = follows s

ups : (s : RestartState) (answer : Reply) → Follows s (up_after s answer)
ups s reply.Done = record {
  member = refl;
  order = λ o. record { reader = o.reader; listed = o.listed; kept = o.kept };
  handed = λ o h. record { read = h.read; unclaimed = h.unclaimed; none_open = h.none_open };
}
ups s (reply.Granted version) = follows s
ups s (reply.Retained by) = follows s
ups s (reply.RecordsFull limit) = follows s
ups s (reply.Contention share exclusive version) = follows s
ups s (reply.Moved version) = follows s
ups s (reply.RetainedLock n mode) = follows s
ups s reply.Nothing = follows s
ups s reply.Found = follows s
ups s reply.NoData = follows s
ups s reply.CacheFull = follows s
ups s reply.Lost = follows s
ups s reply.Written = follows s
ups s reply.Valid = follows s
ups s reply.Invalid = follows s
ups s reply.Taken = follows s
ups s reply.NotChanged = follows s
ups s (reply.Locked by) = follows s
ups s reply.NotHeld = follows s
ups s (reply.ChangedPage other) = follows s
ups s (reply.Query query) = follows s
ups s reply.Gone = follows s
ups s reply.Cells = follows s
ups s reply.Waits = follows s
ups s reply.Raised = follows s
ups s reply.NotRaised = follows s
ups s (reply.Status status) = follows s
ups s reply.NotLost = follows s
ups s (reply.ClaimTaken by) = follows s
ups s reply.Claimed = follows s
ups s (reply.Drawn lrsn) = follows s
ups s (reply.Stale index) = follows s
ups s (reply.LrsnEnd at) = follows s

-- ---- what the tests show
pub lists_read : (s : RestartState) (x : RestartSent) → need_of s intent.RetainedAt ≡ Ok x → s.own.is_read ≡ true
lists_read s x e =
    let rest : Tested = when (not (is_end_listed s)) test.AlreadyListed passed in
    when_first s.own.is_read test.NotRead rest (after_first (when s.own.is_read test.NotRead rest) (Ok (sent.Command (command.RetainedAt s.listed))) x e)

locks_listed : (s : RestartState) (f : PageId → Command) (x : RestartSent) (p : Option PageId) → commands f (locks_in s p) ≡ Ok x → s.is_listed ≡ true
locks_listed s f x None e = absurd (err_ok test.NoneStands x (Err test.NoneStands) refl e)
locks_listed s f x (Some page) e = by (recovered_test s) refl e
  where
    rest : Tested
    rest = when (length s.pages == 0) test.PagesLeft passed

    by : (t : Tested) → recovered_test s ≡ t → commands f (after t (after (free_test s page) (Ok page))) ≡ Ok x → s.is_listed ≡ true
    by (Ok y) is e = when_first s.is_listed test.NotListed rest (ap (λ (z : Tested). holds z) is)
    by (Err t) is e = absurd (err_ok t x (Err t) refl e)

-- ---- by intent
settles : (h : Held) (i : RestartIntent) (x : RestartSent) (answer : Reply) → need_of h.marks i ≡ Ok x → Follows h.marks (settled h i answer).marks
settles h intent.Step x answer e = follows h.marks
settles h intent.ReadLog x answer e = follows h.marks
settles h intent.CutTail x answer e = follows h.marks
settles h intent.RetainedAt x answer e = near_follows h.marks (settled h intent.RetainedAt answer).marks (lists h.marks answer (lists_read h.marks x e))
settles h intent.Read x answer e = near_follows h.marks (settled h intent.Read answer).marks (reads h answer)
settles h intent.ReadPage x answer e = follows h.marks
settles h intent.Test x answer e = near_follows h.marks (settled h intent.Test answer).marks (tests h answer)
settles h intent.WritePage x answer e = near_follows h.marks (settled h intent.WritePage answer).marks (near h.marks)
settles h intent.PurgePage x answer e = near_follows h.marks (settled h intent.PurgePage answer).marks (page_purged h.marks answer)
settles h (intent.Purge n) x answer e = near_follows h.marks (settled h (intent.Purge n) answer).marks (name_purged h.marks n answer)
settles h intent.Append x answer e = follows h.marks
settles h (intent.Obtain id) x answer e = claims h.marks id answer (locks_listed h.marks (λ page. command.Obtain (name.Page page) X) x (page_undone h.marks.trans id) e)
settles h (intent.Ask id to) x answer e = follows h.marks
settles h (intent.Answers id asked) x answer e = follows h.marks
settles h (intent.Grant id) x answer e = claims h.marks id answer (locks_listed h.marks (λ page. command.Grant 0 (name.Page page) X) x (page_undone h.marks.trans id) e)
settles h (intent.Status m) x answer e = follows h.marks
settles h (intent.Undo id) x answer e = near_follows h.marks (settled h (intent.Undo id) answer).marks (undoes h id answer)
settles h intent.ReleasePage x answer e = releases h.marks answer
settles h intent.Unregister x answer e = follows h.marks
settles h intent.Up x answer e = ups h.marks answer

-- ---- any event
from_marks : (h k : Held) (i : RestartIntent) (x : RestartSent) (answer : Reply) → k.marks ≡ h.marks → need_of h.marks i ≡ Ok x → Follows h.marks (settled k i answer).marks
from_marks h k i x answer same e = subst (λ (z : RestartState). Follows z (settled k i answer).marks) same (settles k i x answer (ap (λ (z : RestartState). need_of z i) same ∙ e))

same_held : (h k : Held) → k ≡ h → Follows h.marks k.marks
same_held h k e = subst (λ (z : Held). Follows h.marks z.marks) (sym e) (follows h.marks)

runs_follow : (u v : event.World) (h k : Held) (i : RestartIntent) (x : RestartSent) (a : Answered) (said : RestartTold) → need_of h.marks i ≡ Ok x → Runs u h i x a said v k → Follows h.marks k.marks
runs_follow u v h k i sent.None a said lawful r = same_held h k r.held
runs_follow u v h k i (sent.Command c) a said lawful r =
    subst (λ (z : Held). Follows h.marks z.marks) (sym r.0.settles)
    (from_marks h r.0.after i (sent.Command c) r.0.answer (same_marks h r.0.after (is_hand h c) (lent_bytes r.0.after (is_hand h c)) r.0.gives.executed.back) lawful)
runs_follow u v h k i sent.LogLength a said lawful r = (calls u.drive v.drive h k sent.LogLength a said r.0).follows
runs_follow u v h k i (sent.ReadLog at count) a said lawful r = (calls u.drive v.drive h k (sent.ReadLog at count) a said r.0).follows
runs_follow u v h k i (sent.CutLog long) a said lawful r = (calls u.drive v.drive h k (sent.CutLog long) a said r.0).follows
runs_follow u v h k i sent.AppendLog a said lawful r = (calls u.drive v.drive h k sent.AppendLog a said r.0).follows
runs_follow u v h k i (sent.ReadPage page) a said lawful r = (calls u.drive v.drive h k (sent.ReadPage page) a said r.0).follows

pub restarts_follow : RestartsFollow
restarts_follow u v h k x a e =
    follows_on h.marks e.after.marks k.marks (runs_follow u v h e.after e.intent x a e.said e.lawful e.runs) (near_follows e.after.marks k.marks (locals e.after.marks k.marks e.ends.0))
