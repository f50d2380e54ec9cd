-- What changes neither the lock that a restart has nor how far it is.
use Rattle.std.proofs.Common.{◌≡◌, ℕ, refl, sym, ◌∙◌, ap, subst, Bool, true, false, inl, inr, List, [], ◌∷◌, Option, Some, None, Result, Ok, Err}
use Rattle.std.specs.Prelude.{◌⊎◌, ◌&&◌, ◌==◌, if◌then◌else◌, is_none, is_some, slice_get}
use Rattle.ds_base.specs.declared.names.PageId.{PageId}
use Rattle.ds_model.specs.declared.lock.Name.{Name}
use Rattle.ds_model.specs.declared.lock.Name.TheVariants as name
use Rattle.facility.specs.declared.command.Reply.{Reply}
use Rattle.facility.specs.declared.command.Reply.TheVariants as reply
use Rattle.checkpoint_reader.specs.Readers.{ReaderState}
use Rattle.member_log.specs.Buffers.{after_put}
use Rattle.page_format.specs.Fields.{lrsn_of}
use Rattle.page_redo.specs.declared.fault.FieldFault.{FieldFault}
use Rattle.page_redo.specs.Rows.{change_fault}
use Rattle.write_order.specs.declared.rank.Rank.{Rank}
use Rattle.write_order.specs.Ranks.{rank_of}
use Rattle.restart_records.specs.declared.queue.TurnKey.{TurnKey}
use Rattle.restart_records.specs.declared.trans.Newest.{Newest}
use Rattle.restart_records.specs.Queue.{ranked_key}
use Rattle.restart_records.specs.Trans.{TransState, after_back, after_end, after_finish, is_last, newest, no_trans, page_of, page_undone}
use Rattle.restart_marks.specs.declared.marks.KeptBy.{KeptBy}
use Rattle.restart_marks.specs.declared.told.RestartTold.{RestartTold}
use Rattle.restart_marks.specs.declared.told.RestartTold.TheVariants as told
use Rattle.restart_marks.specs.Hands as hand
use Rattle.restart_marks.specs.Listing.{entered_name, page_freed, record_after}
use Rattle.restart_marks.specs.Moves.{Close, Local, PutDown, Reaches, TakeUpRetained, TakeUpUndone, all_moved, closing_record, is_recovered, may_close, may_put_down, moved, retained_from, undone_from}
use Rattle.restart_marks.specs.State.{RestartState, no_hand, with_hand}
use Rattle.restart_marks.specs.Undoing.{forced_after, may_undo, undone_as}
use Rattle.restart_resources.specs.Forward.{own_forward}
use Rattle.restart_resources.specs.Held.{Held, with_page}
use Rattle.restart_resources.specs.Settled.{bring_after, brought_after, drawn_after, drawn_after_by, noted, read_after, read_in, ready_after, ready_after_at, settle_undo_after, tested_after, tested_in, undo_after_by}
use Rattle.lock_restarts.specs.Courses.{Follows, IsInOrder}
use Rattle.lock_restarts.specs.Stands.{SameClaim}

-- of a state, and what another one has
pub record Kin (s : RestartState) (c : Option PageId) (m : ℕ) (u r : Bool) (x : Option ReaderState) (k : Option KeptBy) (l : Bool) (t : TransState) : Type 0 where
  pub claim : c ≡ s.claim
  pub member : m ≡ s.member
  pub up : u ≡ s.is_up
  pub read : r ≡ s.own.is_read
  pub reader : x ≡ s.own.reader
  pub kept : k ≡ s.kept
  pub listed : l ≡ true → (s.is_listed ≡ true) ⊎ (s.own.is_read ≡ true)
  pub trans : s.trans ≡ no_trans → t ≡ no_trans

abbrev pub Near : RestartState → RestartState → Type 0
Near s t = Kin s t.claim t.member t.is_up t.own.is_read t.own.reader t.kept t.is_listed t.trans

pub near : (s : RestartState) → Near s s
near s = record { claim = refl; member = refl; up = refl; read = refl; reader = refl; kept = refl; listed = λ e. inl e; trans = λ e. e }

either_on : (s t : RestartState) → Near s t → (t.is_listed ≡ true) ⊎ (t.own.is_read ≡ true) → (s.is_listed ≡ true) ⊎ (s.own.is_read ≡ true)
either_on s t a (inl e) = a.listed e
either_on s t a (inr e) = inr (sym a.read ∙ e)

pub near_on : (s t u : RestartState) → Near s t → Near t u → Near s u
near_on s t u a b = record {
  claim = b.claim ∙ a.claim;
  member = b.member ∙ a.member;
  up = b.up ∙ a.up;
  read = b.read ∙ a.read;
  reader = b.reader ∙ a.reader;
  kept = b.kept ∙ a.kept;
  listed = λ e. either_on s t a (b.listed e);
  trans = λ e. b.trans (a.trans e);
}

either_read : (s : RestartState) → IsInOrder s → (s.is_listed ≡ true) ⊎ (s.own.is_read ≡ true) → s.own.is_read ≡ true
either_read s o (inl e) = o.listed e
either_read s o (inr e) = e

pub near_follows : (s t : RestartState) → Near s t → Follows s t
near_follows s t n = record {
  member = n.member;
  order = λ o. record {
    reader = λ e. n.reader ∙ o.reader (sym n.read ∙ e);
    listed = λ e. n.read ∙ either_read s o (n.listed e);
    kept = λ e. n.read ∙ o.kept (ap (λ z. is_some z) (sym n.kept) ∙ e);
  };
  handed = λ o h. record { read = n.read ∙ h.read; unclaimed = n.claim ∙ h.unclaimed; none_open = n.trans h.none_open };
}

pub near_same : (s t : RestartState) → Near s t → SameClaim s t
near_same s t n = record { claim = n.claim; member = n.member; up = n.up }

pub either : (b : Bool) (s t u : RestartState) → Near s t → Near s u → Near s (if b then t else u)
either true s t u x y = x
either false s t u x y = y

pub either_held : (b : Bool) (s : RestartState) (h k : Held) → Near s h.marks → Near s k.marks → Near s (if b then h else k).marks
either_held true s h k x y = x
either_held false s h k x y = y

-- ---- the page in hand
ranked : (s : RestartState) (key to : TurnKey) → Near s (hand.ranked_after s key to)
ranked s key to = either (key.turn == 0) s (hand.moved_to s key to) s (near s) (near s)

noted_near : (s t : RestartState) (raised : Bool) (number : ℕ) → Near s t → Near s (hand.noted t raised number)
noted_near s t raised number n = n

noted_with : (s : RestartState) (key : Option TurnKey) (page : Option PageId) (raised : Bool) (number : ℕ) (rank : Rank) → Near s (hand.noted_with s key page raised number rank)
noted_with s None page raised number rank = near s
noted_with s (Some key) None raised number rank = near s
noted_with s (Some key) (Some page) raised number rank = noted_near s (hand.ranked_after s key (ranked_key page rank)) raised number (ranked s key (ranked_key page rank))

readied : (s : RestartState) (raised : Bool) (number : ℕ) (rank : Rank) → Near s (hand.ready_after s raised number rank)
readied s raised number rank = noted_with s s.hand.key s.hand.page raised number rank

brought : (h : Held) (page : PageId) (outcome : Result Bool FieldFault) → Near h.marks (brought_after h page outcome).marks
brought h page (Ok raised) = readied h.marks raised (lrsn_of h.page) (rank_of page h.page)
brought h page (Err fault) = near h.marks

bring : (h : Held) (page : PageId) → Near h.marks (bring_after h page).marks
bring h page = either_held (is_none h.marks.hand.key) h.marks (noted h page false) (brought_after (with_page h (own_forward page h.page h.marks).page) page (own_forward page h.page h.marks).outcome)
    (readied h.marks false (lrsn_of h.page) (rank_of page h.page)) (brought (with_page h (own_forward page h.page h.marks).page) page (own_forward page h.page h.marks).outcome)

ready_at : (h : Held) (o : Option PageId) → Near h.marks (ready_after_at h o).marks
ready_at h None = near h.marks
ready_at h (Some page) = bring h page

ready : (h : Held) (x : RestartTold) → Near h.marks (ready_after h x).marks
ready h told.Ready = ready_at h h.marks.hand.page
ready h told.Stepped = near h.marks
ready h told.LogBlock = near h.marks
ready h told.LogWhole = near h.marks
ready h told.TailCut = near h.marks
ready h (told.Record n) = near h.marks
ready h told.NoRecord = near h.marks
ready h told.Purged = near h.marks
ready h told.ToFill = near h.marks
ready h told.Filled = near h.marks
ready h told.Invalid = near h.marks
ready h told.Written = near h.marks
ready h told.Lost = near h.marks
ready h told.CacheFull = near h.marks
ready h told.Granted = near h.marks
ready h (told.Retained by) = near h.marks
ready h told.RecordsFull = near h.marks
ready h (told.Contention share exclusive) = near h.marks
ready h told.Moved = near h.marks
ready h (told.Cells is_open is_emptied) = near h.marks
ready h (told.Status status) = near h.marks
ready h told.Released = near h.marks
ready h told.Undone = near h.marks
ready h told.Stale = near h.marks
ready h told.Forced = near h.marks
ready h told.Up = near h.marks
ready h told.Failed = near h.marks
ready h (told.Damaged volume at) = near h.marks

pub reads : (h : Held) (answer : Reply) → Near h.marks (read_after h answer).marks
reads h answer = near_on h.marks (read_in h answer).marks (read_after h answer).marks (near h.marks) (ready (read_in h answer) (hand.read_told h.marks.hand answer))

pub tests : (h : Held) (answer : Reply) → Near h.marks (tested_after h answer).marks
tests h answer = near_on h.marks (tested_in h answer).marks (tested_after h answer).marks (near h.marks) (ready (tested_in h answer) (hand.tested_told answer))

-- ---- retained locks
pub freed : (s : RestartState) (o : Option TurnKey) → Near s (page_freed s o)
freed s None = near s
freed s (Some key) = near s

entered : (s : RestartState) (n : Name) → Near s (entered_name s n)
entered s (name.Space t) = near s
entered s (name.Row t k) = near s
entered s (name.Page p) = near s
entered s (name.Set n) = near s

ends_listing : (s : RestartState) → s.own.is_read ≡ true → Near s (record s { is_listed = true })
ends_listing s read = record { claim = refl; member = refl; up = refl; read = refl; reader = refl; kept = refl; listed = λ _. inr read; trans = λ e. e }

-- the log is read by then
pub lists : (s : RestartState) (answer : Reply) → s.own.is_read ≡ true → Near s (record_after s answer)
lists s (reply.RetainedLock n mode) read = entered s n
lists s (reply.Granted version) read = ends_listing s read
lists s (reply.Retained by) read = ends_listing s read
lists s (reply.RecordsFull limit) read = ends_listing s read
lists s (reply.Contention share exclusive version) read = ends_listing s read
lists s (reply.Moved version) read = ends_listing s read
lists s reply.Done read = ends_listing s read
lists s reply.Nothing read = ends_listing s read
lists s reply.Found read = ends_listing s read
lists s reply.NoData read = ends_listing s read
lists s reply.CacheFull read = ends_listing s read
lists s reply.Lost read = ends_listing s read
lists s reply.Written read = ends_listing s read
lists s reply.Valid read = ends_listing s read
lists s reply.Invalid read = ends_listing s read
lists s reply.Taken read = ends_listing s read
lists s reply.NotChanged read = ends_listing s read
lists s (reply.Locked by) read = ends_listing s read
lists s reply.NotHeld read = ends_listing s read
lists s (reply.ChangedPage other) read = ends_listing s read
lists s (reply.Query query) read = ends_listing s read
lists s reply.Gone read = ends_listing s read
lists s reply.Cells read = ends_listing s read
lists s reply.Waits read = ends_listing s read
lists s reply.Raised read = ends_listing s read
lists s reply.NotRaised read = ends_listing s read
lists s (reply.Status status) read = ends_listing s read
lists s reply.NotLost read = ends_listing s read
lists s (reply.ClaimTaken by) read = ends_listing s read
lists s reply.Claimed read = ends_listing s read
lists s (reply.Drawn lrsn) read = ends_listing s read
lists s (reply.Stale index) read = ends_listing s read
lists s (reply.LrsnEnd at) read = ends_listing s read

-- ---- changes that are taken back
undone : (s : RestartState) (id lrsn : ℕ) (o : Option Newest) → Near s (undone_as s id lrsn o)
undone s id lrsn None = near s
undone s id lrsn (Some it) = record {
  claim = refl;
  member = refl;
  up = refl;
  read = refl;
  reader = refl;
  kept = refl;
  listed = λ e. inl e;
  trans = λ e. ap (λ (z : TransState). if is_last s.trans id then after_end (after_back z id) id else after_back z id) e ∙ still (is_last s.trans id);
}
  where
    still : (b : Bool) → (if b then after_end (after_back no_trans id) id else after_back no_trans id) ≡ no_trans
    still true = refl
    still false = refl

undone_held : (h : Held) (id lrsn : ℕ) (it : Newest) (o : Option ℕ) → Near h.marks (undo_after_by h id lrsn it o).marks
undone_held h id lrsn it None = either (may_undo h.marks id lrsn) h.marks (undone_as h.marks id lrsn (newest h.marks.trans id)) h.marks (undone h.marks id lrsn (newest h.marks.trans id)) (near h.marks)
undone_held h id lrsn it (Some at) = near h.marks

drawn_by : (h : Held) (id lrsn : ℕ) (o : Option Newest) → Near h.marks (drawn_after_by h id lrsn o).marks
drawn_by h id lrsn None = near h.marks
drawn_by h id lrsn (Some it) = undone_held h id lrsn it (change_fault (page_of it.change) it.change h.page)

drawn : (h : Held) (id lrsn : ℕ) → Near h.marks (drawn_after h id lrsn).marks
drawn h id lrsn = either_held (may_undo h.marks id lrsn) h.marks (drawn_after_by h id lrsn (newest h.marks.trans id)) h (drawn_by h id lrsn (newest h.marks.trans id)) (near h.marks)

pub undoes : (h : Held) (id : ℕ) (answer : Reply) → Near h.marks (settle_undo_after h id answer).marks
undoes h id (reply.Drawn lrsn) = drawn h id lrsn
undoes h id (reply.Granted version) = near h.marks
undoes h id (reply.Retained by) = near h.marks
undoes h id (reply.RecordsFull limit) = near h.marks
undoes h id (reply.Contention share exclusive version) = near h.marks
undoes h id (reply.Moved version) = near h.marks
undoes h id (reply.RetainedLock n mode) = near h.marks
undoes h id reply.Done = near h.marks
undoes h id reply.Nothing = near h.marks
undoes h id reply.Found = near h.marks
undoes h id reply.NoData = near h.marks
undoes h id reply.CacheFull = near h.marks
undoes h id reply.Lost = near h.marks
undoes h id reply.Written = near h.marks
undoes h id reply.Valid = near h.marks
undoes h id reply.Invalid = near h.marks
undoes h id reply.Taken = near h.marks
undoes h id reply.NotChanged = near h.marks
undoes h id (reply.Locked by) = near h.marks
undoes h id reply.NotHeld = near h.marks
undoes h id (reply.ChangedPage other) = near h.marks
undoes h id (reply.Query query) = near h.marks
undoes h id reply.Gone = near h.marks
undoes h id reply.Cells = near h.marks
undoes h id reply.Waits = near h.marks
undoes h id reply.Raised = near h.marks
undoes h id reply.NotRaised = near h.marks
undoes h id (reply.Status status) = near h.marks
undoes h id reply.NotLost = near h.marks
undoes h id (reply.ClaimTaken by) = near h.marks
undoes h id reply.Claimed = near h.marks
undoes h id (reply.Stale index) = near h.marks
undoes h id (reply.LrsnEnd at) = near h.marks

pub forces : (s : RestartState) → Near s (forced_after s)
forces s = record { claim = refl; member = refl; up = refl; read = refl; reader = refl; kept = refl; listed = λ e. inl e; trans = λ e. ap (λ (z : TransState). after_finish z) e }

-- ---- local moves
retained : (s : RestartState) (o : Option TurnKey) → Near s (retained_from s o)
retained s None = near s
retained s (Some key) = near s

taken_up : (s : RestartState) (o : Option PageId) → Near s (undone_from s o)
taken_up s None = near s
taken_up s (Some p) = near s

closes : (s : RestartState) (id : ℕ) → Near s (record s { log = after_put s.log (closing_record s id); trans = after_end s.trans id })
closes s id = record { claim = refl; member = refl; up = refl; read = refl; reader = refl; kept = refl; listed = λ e. inl e; trans = λ e. ap (λ (z : TransState). after_end z id) e }

one : (x : Local) (s : RestartState) → Near s (moved x s)
one TakeUpRetained s = either (is_none s.hand.page) s (retained_from s (slice_get s.pages 0)) s (retained s (slice_get s.pages 0)) (near s)
one (TakeUpUndone id) s = either (is_none s.hand.page && is_recovered s) s (undone_from s (page_undone s.trans id)) s (taken_up s (page_undone s.trans id)) (near s)
one PutDown s = either (may_put_down s.hand s.claim) s (with_hand s no_hand) s (near s) (near s)
one (Close id) s = either (may_close s id) s (record s { log = after_put s.log (closing_record s id); trans = after_end s.trans id }) s (closes s id) (near s)

all : (xs : List Local) (s : RestartState) → Near s (all_moved xs s)
all [] s = near s
all (x ∷ xs) s = near_on s (moved x s) (all_moved xs (moved x s)) (one x s) (all xs (moved x s))

pub locals : (s t : RestartState) → Reaches s t → Near s t
unfolding Reaches
locals s t r = subst (λ z. Near s z) (sym r.1) (all r.0 s)
