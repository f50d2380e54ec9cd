-- Any event of a restart, by its intent: what is run and settled, and then the policy's local moves.
use Rattle.std.proofs.Common.{◌≡◌, ◌≢◌, ℕ, ◌≤◌, refl, sym, ◌∙◌, ap, subst, arith, Bool, true, false, inl, inr, List, [], ◌∷◌, Option, Some, None, Result, Ok, Err}
use Rattle.std.specs.Prelude.{◌+◌, ◌⊎◌, ◌==◌, ◌&&◌, not, if◌then◌else◌, is_none, length, slice_get}
use Rattle.std.proofs.lemmas.Bool.{and_from, and_parts, both_ways, cases_Bool, cases_eq, cond-false, cond-true, eq-eqb, eqb-true, false_from_ne_true, ne_eqb}
use Rattle.std.proofs.lemmas.Option.{none-some, same_Some}
use Rattle.ds_base.specs.declared.names.PageId.{PageId}
use Rattle.ds_model.specs.declared.lock.Name.{Name}
use Rattle.ds_model.specs.declared.lock.Name.TheVariants as name
use Rattle.ds_disk.specs.Contents.{Contents}
use Rattle.ds_disk.specs.Pages as disk
use Rattle.ds_disk.specs.Pages.{Pages}
use Rattle.ds_disk.specs.declared.disk.DiskError.{DiskError}
use Rattle.ds_disk.specs.declared.disk.DiskError.TheVariants.{Failed, NoMemory}
use Rattle.lock_names.specs.declared.mode.Mode.{Mode}
use Rattle.lock_names.specs.declared.mode.Mode.TheVariants.{X}
use Rattle.cache_structure.specs.Directory.{after_read, after_write}
use Rattle.cache_structure.specs.Sound.{IsSound}
use Rattle.facility.specs.declared.command.Command.{Command}
use Rattle.facility.specs.declared.command.Command.TheVariants as command
use Rattle.facility.specs.declared.command.Reply.{Reply}
use Rattle.facility.specs.declared.command.Reply.TheVariants as reply
use Rattle.facility.specs.CacheCommands.{ReadsPage, TestsFrame, UnregistersFrame, WritesPage}
use Rattle.facility.specs.Commands.{Executes}
use Rattle.facility.specs.Counting.{DrawsUndo, counter_after, drawn as number_drawn, first_stale, given}
use Rattle.facility.specs.LockCommands.{retained_reply}
use Rattle.facility.specs.States.{Held as Facility}
use Rattle.lock_structure.specs.Locks.{retained_in}
use Rattle.member_intents.specs.declared.outcome.Answered.{Answered}
use Rattle.member_intents.specs.declared.outcome.Answered.TheVariants as answered
use Rattle.member_resources.specs.Events.{World as Outside}
use Rattle.restart_records.specs.declared.queue.TurnKey.{TurnKey}
use Rattle.restart_records.specs.Names.{mark_of}
use Rattle.restart_records.specs.Own.{OwnState, next_in}
use Rattle.restart_records.specs.declared.trans.Newest.{Newest}
use Rattle.restart_records.specs.Trans.{is_last, newest, page_of, page_undone}
use Rattle.restart_records.specs.Written.{back_record, both_logged, ended_record}
use Rattle.page_redo.specs.Rows.{change_fault}
use Rattle.restart_marks.specs.declared.intent.RestartIntent.{RestartIntent}
use Rattle.restart_marks.specs.declared.intent.RestartIntent.TheVariants as intent
use Rattle.restart_marks.specs.declared.intent.RestartSent.{RestartSent}
use Rattle.restart_marks.specs.declared.intent.RestartSent.TheVariants as sent
use Rattle.restart_marks.specs.declared.intent.RestartTest.{RestartTest}
use Rattle.restart_marks.specs.declared.intent.RestartTest.TheVariants as test
use Rattle.restart_marks.specs.declared.marks.KeptBy.{KeptBy}
use Rattle.restart_marks.specs.declared.told.RestartTold.{RestartTold}
use Rattle.restart_marks.specs.Hands.{filled_after, written_after}
use Rattle.restart_marks.specs.Listing.{page_freed, record_after}
use Rattle.restart_marks.specs.Locks.{claim_after}
use Rattle.restart_marks.specs.LockNeeds.{undo_command}
use Rattle.restart_marks.specs.Moves.{Local, TakeUpRetained, TakeUpUndone, PutDown, Close, Reaches, all_moved, is_recovered, may_close, may_put_down, moved, retained_from, undone_from}
use Rattle.restart_marks.specs.Needs.{need_of}
use Rattle.restart_marks.specs.OwnNeeds.{call_sent, is_end_listed, recovered_test}
use Rattle.restart_marks.specs.State.{RestartState, no_hand, with_hand, with_log}
use Rattle.restart_marks.specs.Tested.{Tested, after, passed, when}
use Rattle.restart_marks.specs.Undoing.{forced_after, hand_changed, may_undo, stale_after, taken_back_from, undone_as}
use Rattle.restart_resources.specs.declared.calls.Got.{Got}
use Rattle.restart_resources.specs.Calls as calls
use Rattle.restart_resources.specs.Calls.{Calls, RunsCall, Stores, got_after, tail_cut}
use Rattle.restart_resources.specs.Events as restarting
use Rattle.restart_resources.specs.Events.{Runs, RunsCommand}
use Rattle.restart_resources.specs.Held.{Held, with_marks, with_page}
use Rattle.restart_resources.specs.Lending.{Executed, is_hand}
use Rattle.restart_resources.specs.Settled.{drawn_after_by, read_in, settle_undo_after, settled, tested_after, tested_in, undo_after_by}
use Rattle.page_protocol.specs.Page.{put}
use Rattle.page_protocol.specs.Moves.{World}
use Rattle.page_world.specs.Draws.{content_behind}
use Rattle.page_world.specs.Holdings.{Holdings, KeepsPages}
use Rattle.page_world.specs.Numbers.{page_at, page_number}
use Rattle.page_intents.specs.Logs.{all_forced}
use Rattle.page_members.specs.Members.{Shows, leaves_pages}
use Rattle.page_restarts.specs.Beside.{Beside, as_restarting}
use Rattle.page_restarts.specs.Bringing.{Forwards}
use Rattle.page_restarts.specs.Locals.{MayPark}
use Rattle.page_restarts.specs.Events.{EventsGo, IsGiven, IsQuiet, MayGiveUp, MayTake, MayUndo, Owns, asks_page, frees_page, gives_page, is_granted, takes_page}
use Rattle.page_restarts.specs.Stands.{GoesAlong, SameHand, behind}
use Rattle.page_restarts.specs.Undoes.{IsUndone, undone_behind}
use Rattle.page_restarts.proofs.Hands.{tested_copy}
use Rattle.page_restarts.proofs.Leading.{Facts, KeepsStandings, Led, Level, behind_leads, directory_standings, ended, give_up_leads, lock_leads, made, others_forced, others_undone, standings_same, stay_leads, unregister_leads, went_on}
use Rattle.page_restarts.proofs.Needs.{after_first, asks_page as asks_page_of, err_ok, fills_hand, is_nothing, just_as, locks_page, passes, purges_hand, reads_hand, releases_page, sent_as, tests_hand, undoes_hand, when_first, writes_hand}

-- ---- what an answer leaves of the page in hand and of the own log
record Keeps (h t : Held) : Type 0 where
  hand : SameHand h t
  own : t.marks.own ≡ h.marks.own

still : (h : Held) (x : List ℕ) → Keeps h (record h { spare = x })
still h x = record { hand = record { member = refl; log = refl; page = refl; copy = refl; last = refl }; own = refl }

keeps_as : (h t k : Held) → k ≡ t → Keeps h t → Keeps h k
keeps_as h t k e s = subst (λ (z : Held). Keeps h z) (sym e) s

kept_claim : (h : Held) (c : Option PageId) (k : Option KeptBy) → Keeps h (with_marks h (record h.marks { claim = c; kept = k }))
kept_claim h c k = record { hand = record { member = refl; log = refl; page = refl; copy = refl; last = refl }; own = refl }

claim_keeps : (h : Held) (id : ℕ) (answer : Reply) → Keeps h (with_marks h (claim_after h.marks id answer))
claim_keeps h id reply.Done = kept_claim h h.marks.claim None
claim_keeps h id (reply.Granted version) = kept_claim h (page_undone h.marks.trans id) None
claim_keeps h id (reply.Retained by) = kept_claim h h.marks.claim (Some (record { id = id; by = by }))
claim_keeps h id (reply.RecordsFull limit) = kept_claim h h.marks.claim None
claim_keeps h id (reply.Contention share exclusive version) = kept_claim h h.marks.claim None
claim_keeps h id (reply.Moved version) = kept_claim h h.marks.claim None
claim_keeps h id (reply.RetainedLock n mode) = kept_claim h h.marks.claim None
claim_keeps h id reply.Nothing = kept_claim h h.marks.claim None
claim_keeps h id reply.Found = kept_claim h h.marks.claim None
claim_keeps h id reply.NoData = kept_claim h h.marks.claim None
claim_keeps h id reply.CacheFull = kept_claim h h.marks.claim None
claim_keeps h id reply.Lost = kept_claim h h.marks.claim None
claim_keeps h id reply.Written = kept_claim h h.marks.claim None
claim_keeps h id reply.Valid = kept_claim h h.marks.claim None
claim_keeps h id reply.Invalid = kept_claim h h.marks.claim None
claim_keeps h id reply.Taken = kept_claim h h.marks.claim None
claim_keeps h id reply.NotChanged = kept_claim h h.marks.claim None
claim_keeps h id (reply.Locked by) = kept_claim h h.marks.claim None
claim_keeps h id reply.NotHeld = kept_claim h h.marks.claim None
claim_keeps h id (reply.ChangedPage other) = kept_claim h h.marks.claim None
claim_keeps h id (reply.Query query) = kept_claim h h.marks.claim None
claim_keeps h id reply.Gone = kept_claim h h.marks.claim None
claim_keeps h id reply.Cells = kept_claim h h.marks.claim None
claim_keeps h id reply.Waits = kept_claim h h.marks.claim None
claim_keeps h id reply.Raised = kept_claim h h.marks.claim None
claim_keeps h id reply.NotRaised = kept_claim h h.marks.claim None
claim_keeps h id (reply.Status status) = kept_claim h h.marks.claim None
claim_keeps h id reply.NotLost = kept_claim h h.marks.claim None
claim_keeps h id (reply.ClaimTaken by) = kept_claim h h.marks.claim None
claim_keeps h id reply.Claimed = kept_claim h h.marks.claim None
claim_keeps h id (reply.Drawn lrsn) = kept_claim h h.marks.claim None
claim_keeps h id (reply.Stale index) = kept_claim h h.marks.claim None
claim_keeps h id (reply.LrsnEnd at) = kept_claim h h.marks.claim None

claimed_keeps : (h : Held) (x : List ℕ) (id : ℕ) (answer : Reply) → Keeps h (with_marks (record h { spare = x }) (claim_after h.marks id answer))
claimed_keeps h x id answer = let k = claim_keeps h id answer in record { hand = record { member = k.hand.member; log = k.hand.log; page = k.hand.page; copy = k.hand.copy; last = k.hand.last }; own = k.own }

record_keeps : (h : Held) (x : List ℕ) (o : Option (Name × Mode)) → Keeps h (with_marks (record h { spare = x }) (record_after h.marks (retained_reply o)))
record_keeps h x None = record { hand = record { member = refl; log = refl; page = refl; copy = refl; last = refl }; own = refl }
record_keeps h x (Some y) = by y.0
  where
    by : (n : Name) → Keeps h (with_marks (record h { spare = x }) (record_after h.marks (reply.RetainedLock n y.1)))
    by (name.Space t) = record { hand = record { member = refl; log = refl; page = refl; copy = refl; last = refl }; own = refl }
    by (name.Row t k) = record { hand = record { member = refl; log = refl; page = refl; copy = refl; last = refl }; own = refl }
    by (name.Page p) = record { hand = record { member = refl; log = refl; page = refl; copy = refl; last = refl }; own = refl }
    by (name.Set n) = record { hand = record { member = refl; log = refl; page = refl; copy = refl; last = refl }; own = refl }

freed_keeps : (h : Held) (x : List ℕ) (o : Option TurnKey) → Keeps h (with_marks (record h { spare = x }) (page_freed h.marks o))
freed_keeps h x None = record { hand = record { member = refl; log = refl; page = refl; copy = refl; last = refl }; own = refl }
freed_keeps h x (Some key) = record { hand = record { member = refl; log = refl; page = refl; copy = refl; last = refl }; own = refl }

-- ---- the local moves leave what is known of the own log
own_if : (b : Bool) (s t : RestartState) → t.own ≡ s.own → (if b then t else s).own ≡ s.own
own_if true s t e = e
own_if false s t e = refl

own_retained : (s : RestartState) (o : Option TurnKey) → (retained_from s o).own ≡ s.own
own_retained s None = refl
own_retained s (Some key) = refl

own_undone : (s : RestartState) (o : Option PageId) → (undone_from s o).own ≡ s.own
own_undone s None = refl
own_undone s (Some p) = refl

own_one : (x : Local) (s : RestartState) → (moved x s).own ≡ s.own
own_one TakeUpRetained s = own_if _ s (retained_from s (slice_get s.pages 0)) (own_retained s (slice_get s.pages 0))
own_one (TakeUpUndone id) s = own_if _ s (undone_from s (page_undone s.trans id)) (own_undone s (page_undone s.trans id))
own_one PutDown s = own_if (may_put_down s.hand s.claim) s (with_hand s no_hand) refl
own_one (Close id) s = own_if (may_close s id) s _ refl

own_all : (xs : List Local) (s : RestartState) → (all_moved xs s).own ≡ s.own
own_all [] s = refl
own_all (x ∷ xs) s = own_all xs (moved x s) ∙ own_one x s

pub own_reaches : (s t : RestartState) → Reaches s t → t.own ≡ s.own
unfolding Reaches
own_reaches s t r = ap (λ (z : RestartState). z.own) r.1 ∙ own_all r.0 s

-- ---- calls of the disk
pub was_done : (after k : Held) (s : RestartSent) (x : Result Got DiskError) (a : Answered) (told : RestartTold) → a ≢ answered.Failed → Stores after s x a told k → (g : Got) × (x ≡ Ok g)
was_done after k s (Ok g) a told works e = (g, refl)
was_done after k s (Err Failed) a told works e = absurd (works e.0)
was_done after k s (Err NoMemory) a told works e = absurd e

pub undo_answer : (o : Option ℕ) (counter : ℕ) (answer : Reply) → answer ≡ number_drawn o counter → ((o ≡ None) × (answer ≡ reply.Drawn (counter + 1))) ⊎ ((index : ℕ) × (o ≡ Some index) × (answer ≡ reply.Stale index))
undo_answer None counter answer e = inl (refl, e)
undo_answer (Some index) counter answer e = inr (index, refl, e)

-- ---- a compensation leaves what is known of the own log
undone_own : (s : RestartState) (id lrsn : ℕ) (o : Option Newest) → (undone_as s id lrsn o).own ≡ s.own
undone_own s id lrsn None = refl
undone_own s id lrsn (Some it) = by (is_last s.trans id)
  where
    by : (x : Bool) → (taken_back_from (hand_changed (with_log s (both_logged s.log (back_record id lrsn it) (ended_record id lrsn) x)) lrsn) id x).own ≡ s.own
    by true = refl
    by false = refl

undo_own : (h : Held) (id lrsn : ℕ) (it : Newest) (o : Option ℕ) → (undo_after_by h id lrsn it o).marks.own ≡ h.marks.own
undo_own h id lrsn it None = own_if (may_undo h.marks id lrsn) h.marks (undone_as h.marks id lrsn (newest h.marks.trans id)) (undone_own h.marks id lrsn (newest h.marks.trans id))
undo_own h id lrsn it (Some at) = refl

drawn_by_own : (h : Held) (id lrsn : ℕ) (o : Option Newest) → (drawn_after_by h id lrsn o).marks.own ≡ h.marks.own
drawn_by_own h id lrsn None = refl
drawn_by_own h id lrsn (Some it) = undo_own h id lrsn it (change_fault (page_of it.change) it.change h.page)

drawn_own : (h : Held) (id lrsn : ℕ) → (settle_undo_after h id (reply.Drawn lrsn)).marks.own ≡ h.marks.own
drawn_own h id lrsn = by (may_undo h.marks id lrsn)
  where
    by : (x : Bool) → (if x then drawn_after_by h id lrsn (newest h.marks.trans id) else h).marks.own ≡ h.marks.own
    by true = drawn_by_own h id lrsn (newest h.marks.trans id)
    by false = refl

beyond : (i last : ℕ) → i ≤ last → i ≡ last + 1 → ⊥
beyond i last l e = omega (arith, l, e)

-- nothing is read once more
read_once : (x : Bool) → x ≡ true → (rest : Result RestartSent RestartTest) (s : RestartSent) → after (when (not x) test.AlreadyRead passed) rest ≡ Ok s → ⊥
read_once true so rest s e = err_ok test.AlreadyRead s (Err test.AlreadyRead) refl e
read_once false never rest s e = cc never

-- ---- what is done to page locks
pub answered_same : (x y : Reply) → answered.Reply x ≡ answered.Reply y → x ≡ y
answered_same x y e = cc

pub unasked : (c : Command) (a : Answered) (n : ℕ) → asks_page c n ≡ false → takes_page (sent.Command c) a n ≡ false
unasked c answered.None n e = refl
unasked c (answered.Reply answer) n e = ap (λ z. z && is_granted answer) e
unasked c answered.Done n e = refl
unasked c answered.Failed n e = refl

pub ungranted : (b c : Bool) → c ≡ false → (b && c) ≡ false
ungranted true c e = e
ungranted false c e = refl

pub no_page : (s : RestartState) (n : Name) (j : ℕ) → (mark_of s.names n).retained ≡ true → frees_page (command.Purge n) j ≡ false
no_page s (name.Space t) j e = refl
no_page s (name.Row t k) j e = refl
no_page s (name.Page p) j e = absurd (both_ways false refl e)
no_page s (name.Set n) j e = refl

pub owns_same : (before : ℕ → Option ℕ) (m : ℕ) (s : RestartSent) (a : Answered) → ((n : ℕ) → takes_page s a n ≡ false) → ((n : ℕ) → gives_page s n ≡ false) → Owns before before m s a
owns_same before m s a takes gives = record { takes = λ n e. absurd (both_ways (takes_page s a n) (takes n) e); keeps = λ n e o. o; only = λ n o. inr (gives n, o) }

-- a page is given up that was the member's, or wasn't
owns_less : (before : ℕ → Option ℕ) (m q : ℕ) (c : Command) (a : Answered) → ((n : ℕ) → asks_page c n ≡ false) → ((n : ℕ) → frees_page c n ≡ (n == q)) → Owns before (put before q None) m (sent.Command c) a
owns_less before m q c a asks frees = record {
  takes = λ n e. absurd (both_ways (takes_page (sent.Command c) a n) (unasked c a n (asks n)) e);
  keeps = λ n e o. put_there n (sym (frees n) ∙ e) ∙ o;
  only = λ n o. only n o;
}
  where
    put_there : (n : ℕ) → (n == q) ≡ false → put before q None n ≡ before n
    put_there n e = cond-false (n == q) None (before n) e

    only : (n : ℕ) → put before q None n ≡ Some m → (takes_page (sent.Command c) a n ≡ true) ⊎ ((frees_page c n ≡ false) × (before n ≡ Some m))
    only n o = elim (cases_Bool (n == q)) [
      | inl e ↦ absurd (none-some m (sym (cond-true (n == q) None (before n) e) ∙ o))
      | inr e ↦ inr (frees n ∙ e, sym (put_there n e) ∙ o)
    ]

owns_other : (before : ℕ → Option ℕ) (m q : ℕ) (c : Command) (a : Answered) → ((n : ℕ) → asks_page c n ≡ false) → ((n : ℕ) → frees_page c n ≡ (n == q)) → before q ≢ Some m → Owns before before m (sent.Command c) a
owns_other before m q c a asks frees other = record {
  takes = λ n e. absurd (both_ways (takes_page (sent.Command c) a n) (unasked c a n (asks n)) e);
  keeps = λ n e o. o;
  only = λ n o. inr (frees n ∙ away n o, o);
}
  where
    away : (n : ℕ) → before n ≡ Some m → (n == q) ≡ false
    away n o = ne_eqb n q (λ e. other (ap before (sym e) ∙ o))

-- one is granted
owns_more : (before left : ℕ → Option ℕ) (m q : ℕ) (c : Command) (answer : Reply) → ((n : ℕ) → asks_page c n ≡ (n == q)) → ((n : ℕ) → frees_page c n ≡ false) → is_granted answer ≡ true
    → left q ≡ Some m → ((n : ℕ) → n ≢ q → left n ≡ before n) → Owns before left m (sent.Command c) (answered.Reply answer)
owns_more before left m q c answer asks frees granted has others = record {
  takes = λ n e. ap left (eqb-true n q (sym (asks n) ∙ (and_parts (asks_page c n) (is_granted answer) e).0)) ∙ has;
  keeps = λ n e o. keeps n o;
  only = λ n o. only n o;
}
  where
    keeps : (n : ℕ) → before n ≡ Some m → left n ≡ Some m
    keeps n o = elim (cases_eq n q) [
      | inl e ↦ ap left e ∙ has
      | inr ne ↦ others n ne ∙ o
    ]

    only : (n : ℕ) → left n ≡ Some m → ((asks_page c n && is_granted answer) ≡ true) ⊎ ((frees_page c n ≡ false) × (before n ≡ Some m))
    only n o = elim (cases_eq n q) [
      | inl e ↦ inl (and_from (asks_page c n) (is_granted answer) (asks n ∙ eq-eqb n q e) granted)
      | inr ne ↦ inr (frees n, sym (others n ne) ∙ o)
    ]

-- what an event has made, with what it has done to page locks
record Made (w : World) (v : Outside) (g : Holdings) (content : ℕ → ℕ → List ℕ) (forced : ℕ → ℕ) (h k : Held) (s : RestartSent) (a : Answered) : Type 0 where
  pub owned : ℕ → Option ℕ
  pub led : Led w v g content forced h k owned
  pub owns : Owns g.owner owned h.marks.member s a

module _ (facts : Facts) (w : World) (u v : Outside) (g : Holdings) (content : ℕ → ℕ → List ℕ) (forced : ℕ → ℕ) (h k : Held) (a : Answered) (said : RestartTold) (b : Beside w u g content forced h) (quiet : IsQuiet g h k) (works : a ≢ answered.Failed) where
  abbrev Goes : Type 0
  Goes = Led w v g content forced h k g.owner

  level : Level g h.marks.member k
  level = quiet.level

  -- page locks stay as they are
  kept : (s t : RestartSent) → s ≡ t → ((n : ℕ) → takes_page t a n ≡ false) → ((n : ℕ) → gives_page t n ≡ false) → Goes → Made w v g content forced h k s a
  kept s t is takes gives goes = record { owned = g.owner; led = goes; owns = subst (λ z. Owns g.owner g.owner h.marks.member z a) (sym is) (owns_same g.owner h.marks.member t a takes gives) }

  kept_by : (s : RestartSent) (c : Command) → s ≡ sent.Command c → ((n : ℕ) → asks_page c n ≡ false) → ((n : ℕ) → frees_page c n ≡ false) → Goes → Made w v g content forced h k s a
  kept_by s c is asks frees goes = kept s (sent.Command c) is (λ n. unasked c a n (asks n)) frees goes

  -- the disk tells what it told
  drive_on : (as_restarting v).drive ≡ (as_restarting u).drive → Shows v.drive g.disk
  drive_on e = record { contents = b.drive.contents; told = ap (λ (z : calls.Drive). z.contents) e ∙ b.drive.told; each = b.drive.each }

  pages_on : (x : Contents) → v.drive.contents ≡ Some x → x.pages ≡ b.drive.contents.pages → Shows v.drive g.disk
  pages_on x told same = record { contents = x; told = told; each = λ n. ap (λ (z : Pages). disk.page_at z (page_at n)) same ∙ b.drive.each n }

  same_facility : v.facility ≡ u.facility → KeepsPages g.facility v.facility
  same_facility e = subst (λ (z : Facility). KeepsPages g.facility z) (b.facility ∙ sym e) (record { directory = refl; counter = refl; members = refl; statuses = refl })

  is_read : Keeps h k → k.marks.own.is_read ≡ true
  is_read s = ap (λ (z : OwnState). z.is_read) s.own ∙ b.read

  stays : KeepsPages g.facility v.facility → Shows v.drive g.disk → Keeps h k → Goes
  stays keeps drive s = stay_leads facts w u v g content forced h k b keeps drive s.hand (is_read s) level

  -- ---- a command that lends no page
  lent : (c : Command) (e : Held) (answer : Reply) → is_hand h c ≡ false → Executed h u.facility c (is_hand h c) answer e v.facility → Executed h u.facility c false answer e v.facility
  lent c e answer unlent x = subst (λ z. Executed h u.facility c z answer e v.facility) unlent x

  -- and leaves all that pages know of
  quietly : (i : RestartIntent) (c : Command) → leaves_pages c ≡ true → is_hand h c ≡ false → RunsCommand u.facility h i c a said v.facility k → (as_restarting v).drive ≡ (as_restarting u).drive
      → ((x : List ℕ) (answer : Reply) → Executes u.facility h.marks.member c h.spare answer v.facility x → Keeps h (settled (record h { spare = x }) i answer)) → Goes
  quietly i c leaves unlent r drive keeps =
      let e = lent c r.after r.answer unlent r.gives.executed in
      stays (subst (λ (f : Facility). KeepsPages f v.facility) (sym b.facility) (facts.leave u.facility v.facility h.marks.member c h.spare r.after.spare r.answer leaves e.executes)) (drive_on drive)
      (keeps_as h (settled (record h { spare = r.after.spare }) i r.answer) k (r.settles ∙ ap (λ (z : Held). settled z i r.answer) e.back) (keeps r.after.spare r.answer e.executes))

  kept_of : (i : RestartIntent) (c : Command) → leaves_pages c ≡ true → is_hand h c ≡ false → RunsCommand u.facility h i c a said v.facility k → KeepsPages g.facility v.facility
  kept_of i c leaves unlent r =
      let e = lent c r.after r.answer unlent r.gives.executed in
      subst (λ (f : Facility). KeepsPages f v.facility) (sym b.facility) (facts.leave u.facility v.facility h.marks.member c h.spare r.after.spare r.answer leaves e.executes)

  -- ---- the page in hand is read
  read_by : (p : PageId) → h.marks.hand.page ≡ Some p → (r : RunsCommand u.facility h intent.Read (command.Read p 0) a said v.facility k) → (as_restarting v).drive ≡ (as_restarting u).drive → Forwards w g content (read_in r.after r.answer) p
      → (page bytes : List ℕ) → ReadsPage u.facility h.marks.member p 0 page r.answer v.facility bytes → r.after.marks ≡ h.marks → r.after.page ≡ (if h.marks.hand.changed then h.page else bytes) → (h.marks.hand.changed ≡ false → page ≡ h.page) → Goes
  read_by p placed r drive forward page bytes executes marks left lends =
      let read = subst (λ (f : Facility). ReadsPage f h.marks.member p 0 page r.answer v.facility bytes) (sym b.facility) executes in
      let along = facts.reads w g content forced h r.after p page bytes r.answer v.facility b.begins placed lends read marks left forward in
      let goes : GoesAlong w content forced (behind g v.facility h.marks.member k) h k = subst (λ (z : Held). GoesAlong w content forced (behind g v.facility h.marks.member z) h z) (sym r.settles) along in
      behind_leads facts w u v g content forced h k b goes.goes (directory_standings g.facility v.facility (after_read g.facility.directory h.marks.member p 0) read.1)
      (subst (λ (f : Facility). IsSound f.directory) (sym read.1) (facts.sound.read g.facility.directory h.marks.member p 0 b.begins.sound)) (drive_on drive) (ap (λ (z : OwnState). z.is_read) goes.own ∙ b.read) level

  reads : (p : PageId) → h.marks.hand.page ≡ Some p → (r : RunsCommand u.facility h intent.Read (command.Read p 0) a said v.facility k) → (as_restarting v).drive ≡ (as_restarting u).drive → Forwards w g content (read_in r.after r.answer) p → Goes
  reads p placed r drive forward = by h.marks.hand.changed refl
    where
      by : (c : Bool) → h.marks.hand.changed ≡ c → Goes
      by true e =
          let x : Executed h u.facility (command.Read p 0) false r.answer r.after v.facility = subst (λ z. Executed h u.facility (command.Read p 0) z r.answer r.after v.facility) (ap not e) r.gives.executed in
          read_by p placed r drive forward h.spare r.after.spare x.executes (ap (λ (z : Held). z.marks) x.back) (ap (λ (z : Held). z.page) x.back ∙ sym (cond-true h.marks.hand.changed h.page r.after.spare e)) (λ z. absurd (both_ways h.marks.hand.changed z e))
      by false e =
          let x : Executed h u.facility (command.Read p 0) true r.answer r.after v.facility = subst (λ z. Executed h u.facility (command.Read p 0) z r.answer r.after v.facility) (ap not e) r.gives.executed in
          read_by p placed r drive forward h.page r.after.page x.executes (ap (λ (z : Held). z.marks) x.back) (sym (cond-false h.marks.hand.changed h.page r.after.page e)) (λ z. refl)

  -- ---- it is filled
  fills : (p : PageId) → h.marks.hand.page ≡ Some p → h.marks.hand.registered ≡ true → h.marks.hand.filled ≡ false → RunsCall (as_restarting u).drive h (sent.ReadPage p) a said (as_restarting v).drive k → v.facility ≡ u.facility → Goes
  fills p placed registered unfilled r same =
      let it = was_done r.after k (sent.ReadPage p) r.done a said works r.stores in
      let told = subst (λ z. Calls (as_restarting u).drive h (sent.ReadPage p) z (as_restarting v).drive r.after) it.1 r.calls in
      let stored = subst (λ z. Stores r.after (sent.ReadPage p) z a said k) it.1 r.stores in
      let on = went_on u.drive v.drive.contents g.disk b.drive _ told.0.ok.2 in
      let bytes : r.after.page ≡ g.disk (page_number p) = on.2.2 ∙ ap (disk.page_at b.drive.contents.pages) (sym (facts.named p)) ∙ b.drive.each (page_number p) in
      let end : Held = with_marks (with_page h (g.disk (page_number p))) (with_hand h.marks (filled_after h.marks.hand)) in
      let is : k ≡ end = stored.2 ∙ ap (got_after r.after (sent.ReadPage p)) on.2.0 ∙ ap (λ (z : Held). with_marks z (with_hand z.marks (filled_after z.marks.hand))) (told.1 ∙ ap (with_page h) bytes) in
      let there : g.facility ≡ v.facility = b.facility ∙ sym same in
      let along = facts.fill w g content forced h p b.begins placed registered unfilled in
      let goes : GoesAlong w content forced (behind g v.facility h.marks.member k) h k =
      subst (λ (z : Held). GoesAlong w content forced (behind g v.facility h.marks.member z) h z) (sym is) (subst (λ (f : Facility). GoesAlong w content forced (behind g f h.marks.member end) h end) there along) in
      behind_leads facts w u v g content forced h k b goes.goes (subst (λ (f : Facility). KeepsStandings g.facility f) there (standings_same g.facility)) (subst (λ (f : Facility). IsSound f.directory) there b.begins.sound)
      (pages_on on.0 on.1 (ap (λ (z : Contents). z.pages) on.2.1)) (ap (λ (z : OwnState). z.is_read) goes.own ∙ b.read) level

  -- ---- it is tested
  tests : (p : PageId) → h.marks.hand.page ≡ Some p → h.marks.hand.filled ≡ true → (r : RunsCommand u.facility h intent.Test (command.Test 0) a said v.facility k) → (as_restarting v).drive ≡ (as_restarting u).drive → Forwards w g content (tested_in r.after r.answer) p → Goes
  tests p placed filled r drive forward =
      let x = r.gives.executed in
      let back : r.after ≡ h = x.back ∙ ap (λ z. record h { spare = z }) x.executes.1 in
      let is : k ≡ tested_after h r.answer = r.settles ∙ ap (λ (z : Held). tested_after z r.answer) back in
      let tried = subst (λ (f : Facility). TestsFrame f h.marks.member 0 r.answer v.facility) (sym b.facility) x.executes.0 in
      let along = facts.tests w g content forced h p r.answer v.facility b.begins placed filled tried (subst (λ (z : Held). Forwards w g content (tested_in z r.answer) p) back forward) in
      let goes : GoesAlong w content forced (behind g v.facility h.marks.member k) h k = subst (λ (z : Held). GoesAlong w content forced (behind g v.facility h.marks.member z) h z) (sym is) along in
      behind_leads facts w u v g content forced h k b goes.goes (subst (λ (f : Facility). KeepsStandings g.facility f) (sym tried.1) (standings_same g.facility)) (subst (λ (f : Facility). IsSound f.directory) (sym tried.1) b.begins.sound)
      (drive_on drive) (ap (λ (z : OwnState). z.is_read) goes.own ∙ b.read) level

  -- ---- it is written
  writes : (p : PageId) → h.marks.hand.page ≡ Some p → h.marks.hand.changed ≡ true → h.marks.hand.last ≤ h.marks.log.stable → RunsCommand u.facility h intent.WritePage (command.Write p 0) a said v.facility k → (as_restarting v).drive ≡ (as_restarting u).drive → Goes
  writes p placed changed stable r drive =
      let x = r.gives.executed in
      let back : r.after ≡ h = x.back ∙ ap (with_page h) x.executes.1 in
      let is : k ≡ with_marks h (with_hand h.marks (written_after h.marks.hand r.answer)) = r.settles ∙ ap (λ (z : Held). with_marks z (with_hand z.marks (written_after z.marks.hand r.answer))) back in
      let write = subst (λ (f : Facility). WritesPage f h.marks.member p 0 h.page r.answer v.facility) (sym b.facility) x.executes.0 in
      let goes : GoesAlong w content forced (behind g v.facility h.marks.member k) h k =
      subst (λ (z : Held). GoesAlong w content forced (behind g v.facility h.marks.member z) h z) (sym is) (facts.write w g content forced h p r.answer v.facility b.begins placed changed stable write) in
      behind_leads facts w u v g content forced h k b goes.goes (directory_standings g.facility v.facility (after_write g.facility.directory h.marks.member p 0 h.page) write.1)
      (subst (λ (f : Facility). IsSound f.directory) (sym write.1) (facts.sound.write g.facility.directory h.marks.member p 0 h.page b.begins.sound)) (drive_on drive) (ap (λ (z : OwnState). z.is_read) goes.own ∙ b.read) level

  -- ---- a page is given up
  gives_up : (s : RestartSent) (c : Command) (p : PageId) → s ≡ sent.Command c → ((n : ℕ) → asks_page c n ≡ false) → ((n : ℕ) → frees_page c n ≡ (n == page_number p))
      → MayGiveUp w g h.marks.member p → (h.marks.hand.page ≡ Some p → h.marks.hand.changed ≡ false) → KeepsPages g.facility v.facility → Shows v.drive g.disk → Keeps h k → Made w v g content forced h k s a
  gives_up s c p is asks frees may clean keeps drive x = by (g.owner (page_number p)) refl
    where
      m : ℕ
      m = h.marks.member

      mine : g.owner (page_number p) ≡ Some m → Made w v g content forced h k s a
      mine own = record {
        owned = put g.owner (page_number p) None;
        led = give_up_leads facts w u v g content forced h k p b (facts.give_up w g content forced h k p v.facility b.begins own clean (may own) keeps x.hand) own keeps drive (is_read x) level;
        owns = subst (λ z. Owns g.owner (put g.owner (page_number p) None) m z a) (sym is) (owns_less g.owner m (page_number p) c a asks frees);
      }

      other : g.owner (page_number p) ≢ Some m → Made w v g content forced h k s a
      other ne = record { owned = g.owner; led = stays keeps drive x; owns = subst (λ z. Owns g.owner g.owner m z a) (sym is) (owns_other g.owner m (page_number p) c a asks frees ne) }

      by : (o : Option ℕ) → g.owner (page_number p) ≡ o → Made w v g content forced h k s a
      by None e = other (λ f. none-some m (sym e ∙ f))
      by (Some q) e = elim (cases_eq q m) [
        | inl same ↦ mine (e ∙ ap Some same)
        | inr ne ↦ other (λ f. ne (same_Some q m (sym e ∙ f)))
      ]

  purges : (s : RestartSent) (p : PageId) → s ≡ sent.Command (command.Purge (name.Page p)) → h.marks.hand.changed ≡ false
      → (r : RunsCommand u.facility h intent.PurgePage (command.Purge (name.Page p)) a said v.facility k) → (as_restarting v).drive ≡ (as_restarting u).drive → MayGiveUp w g h.marks.member p → Made w v g content forced h k s a
  purges s p is clean r drive may =
      let x = r.gives.executed in
      let y = keeps_as h (with_marks (record h { spare = r.after.spare }) (page_freed h.marks h.marks.hand.key)) k
      (r.settles ∙ ap (settled r.after intent.PurgePage) x.executes.0.0 ∙ ap (λ (z : Held). with_marks z (page_freed z.marks z.marks.hand.key)) x.back) (freed_keeps h r.after.spare h.marks.hand.key) in
      gives_up s (command.Purge (name.Page p)) p is (λ n. refl) (λ n. refl) may (λ _. clean) (kept_of intent.PurgePage (command.Purge (name.Page p)) refl refl r) (drive_on drive) y

  releases : (s : RestartSent) (p : PageId) → s ≡ sent.Command (command.Release (name.Page p) (record { share = false; exclusive = false })) → (h.marks.hand.page ≡ Some p → h.marks.hand.changed ≡ false)
      → (r : RunsCommand u.facility h intent.ReleasePage (command.Release (name.Page p) (record { share = false; exclusive = false })) a said v.facility k) → (as_restarting v).drive ≡ (as_restarting u).drive → MayGiveUp w g h.marks.member p → Made w v g content forced h k s a
  releases s p is clean r drive may =
      let x = r.gives.executed in
      let y = keeps_as h (with_marks (record h { spare = r.after.spare }) (record h.marks { claim = None })) k
      (r.settles ∙ ap (settled r.after intent.ReleasePage) x.executes.0.0 ∙ ap (λ (z : Held). with_marks z (record z.marks { claim = None })) x.back)
      (record { hand = record { member = refl; log = refl; page = refl; copy = refl; last = refl }; own = refl }) in
      gives_up s (command.Release (name.Page p) (record { share = false; exclusive = false })) p is (λ n. refl) (λ n. refl) may clean
      (kept_of intent.ReleasePage (command.Release (name.Page p) (record { share = false; exclusive = false })) refl refl r) (drive_on drive) y

  -- ---- a page's lock is asked for
  takes : (s : RestartSent) (c : Command) (p : PageId) (answer : Reply) → s ≡ sent.Command c → a ≡ answered.Reply answer → ((n : ℕ) → asks_page c n ≡ (n == page_number p)) → ((n : ℕ) → frees_page c n ≡ false)
      → (is_granted answer ≡ true → MayTake g h.marks.member (Some p)) → KeepsPages g.facility v.facility → Shows v.drive g.disk → Keeps h k → Made w v g content forced h k s a
  takes s c p answer is said_is asks frees may keeps drive x = by (is_granted answer) refl
    where
      m : ℕ
      m = h.marks.member

      as_asked : (left : ℕ → Option ℕ) → Owns g.owner left m (sent.Command c) (answered.Reply answer) → Owns g.owner left m s a
      as_asked left o = subst (λ z. Owns g.owner left m z a) (sym is) (subst (λ z. Owns g.owner left m (sent.Command c) z) (sym said_is) o)

      by : (y : Bool) → is_granted answer ≡ y → Made w v g content forced h k s a
      by false e = record { owned = g.owner; led = stays keeps drive x; owns = as_asked g.owner (owns_same g.owner m (sent.Command c) (answered.Reply answer) (λ n. ungranted (asks_page c n) (is_granted answer) e) frees) }
      by true e = elim (may e) [
        | inl free ↦ record {
          owned = put g.owner (page_number p) (Some m);
          led = lock_leads facts w u v g content forced h k p b free keeps drive x.hand (is_read x) level;
          owns = as_asked (put g.owner (page_number p) (Some m))
              (owns_more g.owner (put g.owner (page_number p) (Some m)) m (page_number p) c answer asks frees e (cond-true (page_number p == page_number p) (Some m) (g.owner (page_number p)) (eq-eqb (page_number p) (page_number p) refl))
              (λ n ne. cond-false (n == page_number p) (Some m) (g.owner n) (ne_eqb n (page_number p) ne)));
        }
        | inr own ↦ record { owned = g.owner; led = stays keeps drive x; owns = as_asked g.owner (owns_more g.owner g.owner m (page_number p) c answer asks frees e own (λ n ne. refl)) }
      ]

  -- ---- the registration of index 0 is dropped
  unregisters : h.marks.hand.page ≡ None → RunsCommand u.facility h intent.Unregister (command.Unregister 0) a said v.facility k → (as_restarting v).drive ≡ (as_restarting u).drive → Goes
  unregisters none r drive =
      let x = r.gives.executed in
      let is : k ≡ h = r.settles ∙ x.back ∙ ap (λ z. record h { spare = z }) x.executes.1 in
      unregister_leads facts w u v g content forced h k r.answer b none (subst (λ (f : Facility). UnregistersFrame f h.marks.member 0 r.answer v.facility) (sym b.facility) x.executes.0) (drive_on drive) is (subst (λ (z : Held). Level g h.marks.member z) is level)

  -- ---- the log buffer is appended
  appends : RunsCall (as_restarting u).drive h sent.AppendLog a said (as_restarting v).drive k → v.facility ≡ u.facility → Goes
  appends r same =
      let it = was_done r.after k sent.AppendLog r.done a said works r.stores in
      let told = subst (λ z. Calls (as_restarting u).drive h sent.AppendLog z (as_restarting v).drive r.after) it.1 r.calls in
      let stored = subst (λ z. Stores r.after sent.AppendLog z a said k) it.1 r.stores in
      let on = went_on u.drive v.drive.contents g.disk b.drive _ told.0.ok.2 in
      let is : k ≡ with_marks h (forced_after h.marks) = stored.2 ∙ ap (got_after r.after sent.AppendLog) on.2.0 ∙ ap (λ (z : Held). with_marks z (forced_after z.marks)) told.1 in
      let m = h.marks.member in
      subst (λ (z : Held). Led w v g content forced h z g.owner) (sym is)
      (made facts.good w u v g (all_forced g m) content content forced (put forced m h.marks.log.last) h (with_marks h (forced_after h.marks)) b (facts.append w g content forced h b.begins)
      (b.facility ∙ sym same) (pages_on on.0 on.1 (ap (λ (z : Contents). z.pages) on.2.1)) b.begins.sound b.read (others_forced g forced m h.marks.log.last) (λ n i l. refl) refl (λ no e. cond-true (m == m) (g.written m) (g.stable m) (eq-eqb m m refl)) (λ c e. cond-true (m == m) (g.written m) (g.stable m) (eq-eqb m m refl)))

  -- ---- what follows the whole records is cut
  cuts : (long : ℕ) → RunsCall (as_restarting u).drive h (sent.CutLog long) a said (as_restarting v).drive k → v.facility ≡ u.facility → Goes
  cuts long r same =
      let it = was_done r.after k (sent.CutLog long) r.done a said works r.stores in
      let told = subst (λ z. Calls (as_restarting u).drive h (sent.CutLog long) z (as_restarting v).drive r.after) it.1 r.calls in
      let stored = subst (λ z. Stores r.after (sent.CutLog long) z a said k) it.1 r.stores in
      let on = went_on u.drive v.drive.contents g.disk b.drive _ told.0.ok.2 in
      let is : k ≡ with_marks h (tail_cut h.marks) = stored.2 ∙ ap (got_after r.after (sent.CutLog long)) on.2.0 ∙ ap (λ (z : Held). with_marks z (tail_cut z.marks)) told.1 in
      subst (λ (z : Held). Led w v g content forced h z g.owner) (sym is)
      (stay_leads facts w u v g content forced h (with_marks h (tail_cut h.marks)) b (same_facility same) (pages_on on.0 on.1 (ap (λ (z : Contents). z.pages) on.2.1))
      (record { member = refl; log = refl; page = refl; copy = refl; last = refl }) b.read (subst (λ (z : Held). Level g h.marks.member z) is level))

  -- ---- a change is taken back
  undoes : (id : ℕ) (p : PageId) → h.marks.hand.page ≡ Some p → h.marks.hand.filled ≡ true → is_recovered h.marks ≡ true → (r : RunsCommand u.facility h (intent.Undo id) undo_command a said v.facility k) → (as_restarting v).drive ≡ (as_restarting u).drive
      → ((number : ℕ) → r.answer ≡ reply.Drawn number → MayUndo w g h (settle_undo_after r.after id r.answer) p number) → Goes
  undoes id p placed filled recovered r drive may = elim (undo_answer (first_stale g.facility.directory h.marks.member (0 ∷ [])) g.facility.counter r.answer draws.0) [
    | inl it ↦ drawn (g.facility.counter + 1) it.0 it.1
    | inr it ↦ stale it.0 it.1 it.2
  ]
    where
      x : Executed h u.facility undo_command false r.answer r.after v.facility
      x = r.gives.executed

      back : r.after ≡ h
      back = x.back ∙ ap (λ z. record h { spare = z }) x.executes.1

      draws : DrawsUndo g.facility h.marks.member (record { count = 1; at = 0 ∷ 0 ∷ 0 ∷ [] }) r.answer v.facility
      draws = subst (λ (f : Facility). DrawsUndo f h.marks.member (record { count = 1; at = 0 ∷ 0 ∷ 0 ∷ [] }) r.answer v.facility) (sym b.facility) x.executes.0

      drawn : (number : ℕ) → first_stale g.facility.directory h.marks.member (0 ∷ []) ≡ None → r.answer ≡ reply.Drawn number → Goes
      drawn number none is =
          let m = h.marks.member in
          let n = page_number p in
          let y = may number is in
          let undone : IsUndone g h k p number = subst (λ (z : Held). IsUndone g h z p number) (sym r.settles) y.undone in
          let goes = facts.undo w g content forced h k p number v.facility b.begins placed filled y.own y.newest (subst (λ z. DrawsUndo g.facility m (record { count = 1; at = 0 ∷ 0 ∷ 0 ∷ [] }) z v.facility) is draws) undone in
          let own : k.marks.own ≡ h.marks.own = ap (λ (z : Held). z.marks.own) (r.settles ∙ ap (settle_undo_after r.after id) is) ∙ drawn_own r.after id number ∙ ap (λ (z : Held). z.marks.own) back in
          let counter : g.facility.counter ≤ v.facility.counter = (let e : v.facility.counter ≡ counter_after (first_stale g.facility.directory m (0 ∷ [])) g.facility.counter = ap (λ (z : Facility). z.counter) draws.1 in let f : counter_after (first_stale g.facility.directory m (0 ∷ [])) g.facility.counter ≡ g.facility.counter + 1 = ap (λ o. counter_after o g.facility.counter) none in omega (arith, e, f)) in
          made facts.good w u v g (undone_behind g v.facility m k) content (content_behind w (λ j. j == n) (λ j. k.page) content) forced forced h k b goes
          refl (drive_on drive) (subst (λ (f : Facility). IsSound f.directory) (sym draws.1) b.begins.sound) (ap (λ (z : OwnState). z.is_read) own ∙ b.read)
          (others_undone g v.facility forced m k (record { members = ap (λ (f : Facility). f.lists.members) draws.1; statuses = ap (λ (f : Facility). f.lists.statuses) draws.1; counter = counter }))
          (λ j i l. cond-false ((j == n) && (i == (w.pages j).last + 1)) k.page (content j i) (false_from_ne_true ((j == n) && (i == (w.pages j).last + 1)) (λ z. beyond i (w.pages j).last l (eqb-true i ((w.pages j).last + 1) (and_parts (j == n) (i == (w.pages j).last + 1) z).1))))
          refl (λ no e. absurd (both_ways (is_recovered h.marks) no recovered)) (λ c e. absurd (both_ways (is_recovered h.marks) (quiet.unrecovered c e) recovered))

      stale : (index : ℕ) → first_stale g.facility.directory h.marks.member (0 ∷ []) ≡ Some index → r.answer ≡ reply.Stale index → Goes
      stale index some is =
          let end : k ≡ with_marks h (stale_after h.marks) = r.settles ∙ ap (settle_undo_after r.after id) is ∙ ap (λ (z : Held). with_marks z (stale_after z.marks)) back in
          let s : Keeps h (with_marks h (stale_after h.marks)) = record { hand = record { member = refl; log = refl; page = refl; copy = tested_copy h.marks.hand h.page false filled; last = refl }; own = refl } in
          stays (record {
            directory = ap (λ (f : Facility). f.directory) draws.1;
            counter = ap (λ (f : Facility). f.counter) draws.1 ∙ ap (λ o. counter_after o g.facility.counter) some;
            members = ap (λ (f : Facility). f.lists.members) draws.1;
            statuses = ap (λ (f : Facility). f.lists.statuses) draws.1;
          }) (drive_on drive) (keeps_as h (with_marks h (stale_after h.marks)) k end s)

  -- ---- by intent
  ran : (i : RestartIntent) (s t : RestartSent) → s ≡ t → Runs (as_restarting u) h i s a said (as_restarting v) k → Runs (as_restarting u) h i t a said (as_restarting v) k
  ran i s t e r = subst (λ z. Runs (as_restarting u) h i z a said (as_restarting v) k) e r

  by_intent : (i : RestartIntent) (s : RestartSent) → need_of h.marks i ≡ Ok s → i ≢ intent.Up → (r : Runs (as_restarting u) h i s a said (as_restarting v) k)
      → ((c : Command) → s ≡ sent.Command c → (r : RunsCommand u.facility h i c a said v.facility k) → IsGiven w g content h r.after i r.answer) → Made w v g content forced h k s a
  by_intent intent.Step s e up r given =
      let q = ran intent.Step s sent.None (just_as sent.None s e) r in
      kept s sent.None (just_as sent.None s e) (λ n. refl) (λ n. refl)
      (stays (same_facility (ap (λ (z : restarting.World). z.facility) q.world)) (drive_on (ap (λ (z : restarting.World). z.drive) q.world)) (keeps_as h h k q.held (record { hand = record { member = refl; log = refl; page = refl; copy = refl; last = refl }; own = refl })))
  by_intent intent.ReadLog s e up r given = absurd (read_once h.marks.own.is_read b.read (call_sent (next_in h.marks.own.reader)) s e)
  by_intent intent.CutTail s e up r given =
      let is = sent_as (when h.marks.own.is_read test.NotRead (when (not (h.marks.own.tail == 0)) test.NoTail passed)) (sent.CutLog h.marks.own.long) s e in
      let q = ran intent.CutTail s (sent.CutLog h.marks.own.long) is r in
      kept s (sent.CutLog h.marks.own.long) is (λ n. refl) (λ n. refl) (cuts h.marks.own.long q.0 q.1)
  by_intent intent.RetainedAt s e up r given =
      let c = command.RetainedAt h.marks.listed in
      let is = sent_as (when h.marks.own.is_read test.NotRead (when (not (is_end_listed h.marks)) test.AlreadyListed passed)) (sent.Command c) s e in
      let q = ran intent.RetainedAt s (sent.Command c) is r in
      kept_by s c is (λ n. refl) (λ n. refl)
      (quietly intent.RetainedAt c refl refl q.0 q.1 (λ x answer done. subst (λ z. Keeps h (settled (record h { spare = x }) intent.RetainedAt z)) (sym done.0.0) (record_keeps h x (slice_get (retained_in u.facility.locks h.marks.member) h.marks.listed))))
  by_intent intent.Read s e up r given =
      let x = reads_hand h.marks s h.marks.hand.page refl e in
      let q = ran intent.Read s (sent.Command (command.Read x.page 0)) x.is r in
      kept_by s (command.Read x.page 0) x.is (λ n. refl) (λ n. refl) (reads x.page x.placed q.0 q.1 (given (command.Read x.page 0) x.is q.0 x.page x.placed))
  by_intent intent.ReadPage s e up r given =
      let x = fills_hand h.marks s h.marks.hand.page refl e in
      let q = ran intent.ReadPage s (sent.ReadPage x.page) x.is r in
      kept s (sent.ReadPage x.page) x.is (λ n. refl) (λ n. refl) (fills x.page x.placed x.registered x.unfilled q.0 q.1)
  by_intent intent.Test s e up r given =
      let x = tests_hand h.marks s h.marks.hand.page refl e in
      let q = ran intent.Test s (sent.Command (command.Test 0)) x.is r in
      kept_by s (command.Test 0) x.is (λ n. refl) (λ n. refl) (tests x.page x.placed x.filled q.0 q.1 (given (command.Test 0) x.is q.0 x.page x.placed))
  by_intent intent.WritePage s e up r given =
      let x = writes_hand h.marks s h.marks.hand.page refl e in
      let q = ran intent.WritePage s (sent.Command (command.Write x.page 0)) x.is r in
      kept_by s (command.Write x.page 0) x.is (λ n. refl) (λ n. refl) (writes x.page x.placed x.changed x.stable q.0 q.1)
  by_intent intent.PurgePage s e up r given =
      let x = purges_hand h.marks s h.marks.hand.page refl e in
      let q = ran intent.PurgePage s (sent.Command (command.Purge (name.Page x.page))) x.is r in
      purges s x.page x.is x.clean q.0 q.1 (given (command.Purge (name.Page x.page)) x.is q.0 x.page x.placed)
  by_intent (intent.Purge n) s e up r given =
      let marked : Tested = when (mark_of h.marks.names n).retained test.NotRetained (when ((mark_of h.marks.names n).needed == 0) test.StillNeeded passed) in
      let rest : Tested = after (recovered_test h.marks) (when (not h.marks.hand.changed) test.StillChanged (when (length h.marks.log.pending == 0) test.StillPending passed)) in
      let is = sent_as (after marked rest) (sent.Command (command.Purge n)) s e in
      let retained : (mark_of h.marks.names n).retained ≡ true =
      when_first (mark_of h.marks.names n).retained test.NotRetained (when ((mark_of h.marks.names n).needed == 0) test.StillNeeded passed) (passes marked rest (after_first (after marked rest) (Ok (sent.Command (command.Purge n))) s e)) in
      let q = ran (intent.Purge n) s (sent.Command (command.Purge n)) is r in
      kept_by s (command.Purge n) is (λ j. refl) (λ j. no_page h.marks n j retained)
      (quietly (intent.Purge n) (command.Purge n) refl refl q.0 q.1 (λ x answer done. subst (λ z. Keeps h (settled (record h { spare = x }) (intent.Purge n) z)) (sym done.0.0) (record { hand = record { member = refl; log = refl; page = refl; copy = refl; last = refl }; own = refl })))
  by_intent intent.Append s e up r given =
      let is = sent_as (when (not (length h.marks.log.pending == 0)) test.NonePending (when (h.marks.own.tail == 0) test.HasTail passed)) sent.AppendLog s e in
      let q = ran intent.Append s sent.AppendLog is r in
      kept s sent.AppendLog is (λ n. refl) (λ n. refl) (appends q.0 q.1)
  by_intent (intent.Obtain id) s e up r given =
      let x = locks_page h.marks (λ page. command.Obtain (name.Page page) X) s (page_undone h.marks.trans id) e in
      let c = command.Obtain (name.Page x.0) X in
      let q = ran (intent.Obtain id) s (sent.Command c) x.2 r in
      let y = q.0.gives.executed in
      takes s c x.0 q.0.answer x.2 q.0.is (λ n. refl) (λ n. refl) (λ so. subst (λ o. MayTake g h.marks.member o) x.1 (given c x.2 q.0 so)) (kept_of (intent.Obtain id) c refl refl q.0) (drive_on q.1)
      (keeps_as h (with_marks (record h { spare = q.0.after.spare }) (claim_after h.marks id q.0.answer)) k (q.0.settles ∙ ap (λ (z : Held). with_marks z (claim_after z.marks id q.0.answer)) y.back) (claimed_keeps h q.0.after.spare id q.0.answer))
  by_intent (intent.Ask id to) s e up r given =
      let x = asks_page_of (λ page. command.Ask 0 to (name.Page page) X) s (page_undone h.marks.trans id) e in
      let c = command.Ask 0 to (name.Page x.0) X in
      let q = ran (intent.Ask id to) s (sent.Command c) x.1 r in
      kept_by s c x.1 (λ n. refl) (λ n. refl) (quietly (intent.Ask id to) c refl refl q.0 q.1 (λ x answer done. still h x))
  by_intent (intent.Answers id asked) s e up r given =
      let x = asks_page_of (λ page. command.Answers 0) s (page_undone h.marks.trans id) e in
      let q = ran (intent.Answers id asked) s (sent.Command (command.Answers 0)) x.1 r in
      kept_by s (command.Answers 0) x.1 (λ n. refl) (λ n. refl) (quietly (intent.Answers id asked) (command.Answers 0) refl refl q.0 q.1 (λ x answer done. still h x))
  by_intent (intent.Grant id) s e up r given =
      let x = locks_page h.marks (λ page. command.Grant 0 (name.Page page) X) s (page_undone h.marks.trans id) e in
      let c = command.Grant 0 (name.Page x.0) X in
      let q = ran (intent.Grant id) s (sent.Command c) x.2 r in
      let y = q.0.gives.executed in
      takes s c x.0 q.0.answer x.2 q.0.is (λ n. refl) (λ n. refl) (λ so. subst (λ o. MayTake g h.marks.member o) x.1 (given c x.2 q.0 so)) (kept_of (intent.Grant id) c refl refl q.0) (drive_on q.1)
      (keeps_as h (with_marks (record h { spare = q.0.after.spare }) (claim_after h.marks id q.0.answer)) k (q.0.settles ∙ ap (λ (z : Held). with_marks z (claim_after z.marks id q.0.answer)) y.back) (claimed_keeps h q.0.after.spare id q.0.answer))
  by_intent (intent.Status m) s e up r given =
      let is = just_as (sent.Command (command.Status m)) s e in
      let q = ran (intent.Status m) s (sent.Command (command.Status m)) is r in
      kept_by s (command.Status m) is (λ n. refl) (λ n. refl) (quietly (intent.Status m) (command.Status m) refl refl q.0 q.1 (λ x answer done. still h x))
  by_intent (intent.Undo id) s e up r given =
      let x = undoes_hand h.marks s (newest h.marks.trans id) e in
      let q = ran (intent.Undo id) s (sent.Command undo_command) x.is r in
      kept_by s undo_command x.is (λ n. refl) (λ n. refl) (undoes id x.page x.placed x.filled x.recovered q.0 q.1 (λ number is. given undo_command x.is q.0 number x.page is x.placed))
  by_intent intent.ReleasePage s e up r given =
      let x = releases_page h.marks s h.marks.claim refl e in
      let c = command.Release (name.Page x.page) (record { share = false; exclusive = false }) in
      let q = ran intent.ReleasePage s (sent.Command c) x.is r in
      releases s x.page x.is x.clean q.0 q.1 (given c x.is q.0 x.page x.claimed)
  by_intent intent.Unregister s e up r given =
      let tests : Tested = when (is_none h.marks.hand.page) test.StillPlaced passed in
      let is = sent_as tests (sent.Command (command.Unregister 0)) s e in
      let none = is_nothing h.marks.hand.page (when_first (is_none h.marks.hand.page) test.StillPlaced passed (after_first tests (Ok (sent.Command (command.Unregister 0))) s e)) in
      let q = ran intent.Unregister s (sent.Command (command.Unregister 0)) is r in
      kept_by s (command.Unregister 0) is (λ n. refl) (λ n. refl) (unregisters none q.0 q.1)
  by_intent intent.Up s e up r given = absurd (up refl)

pub events_go : Facts → EventsGo
events_go facts w u v g content forced h k s a b happens up supplied =
    let mid = happens.after in
    let did = by_intent facts w u v g content forced h mid a happens.said b supplied.quiet supplied.works happens.intent s happens.lawful up happens.runs supplied.given in
    let led = did.led in
    let own : k.marks.own ≡ mid.marks.own = own_reaches mid.marks k.marks happens.ends.0 in
    let park : MayPark led.leads.left mid = λ c e. subst (λ z. led.leads.left.stable z ≡ led.leads.left.written z) (sym led.leads.same) (led.level c e) in
    let on = ended facts w v g content forced h mid k led.leads park happens.ends (ap (λ (z : OwnState). z.is_read) own ∙ led.leads.beside.read) in
    record { leads = on.leads; owns = subst (λ z. Owns g.owner z h.marks.member s a) (sym (on.owner ∙ led.owner)) did.owns }
