-- What the replies to a restart, and its local moves, leave of what it has left open.
use Rattle.std.proofs.Common.{◌≡◌, ℕ, refl, sym, ◌∙◌, ap, subst, Bool, true, false, List, [], ◌∷◌, Option, Some, None, Result, Ok, Err}
use Rattle.std.specs.Prelude.{◌-◌, ◌&&◌, ◌==◌, not, IfSome, if◌then◌else◌, is_none, is_some, slice_get}
use Rattle.std.proofs.lemmas.Bool.{and_parts}
use Rattle.ds_base.specs.declared.names.PageId.{PageId}
use Rattle.ds_model.specs.declared.lock.Name.{Name}
use Rattle.ds_model.specs.declared.lock.Name.TheVariants as name
use Rattle.facility.specs.declared.command.Reply.{Reply}
use Rattle.facility.specs.declared.command.Reply.TheVariants as reply
use Rattle.member_log.specs.Buffers.{LogBuffer, after_put}
use Rattle.page_format.specs.Fields.{lrsn_of}
use Rattle.page_redo.specs.declared.fault.FieldFault.{FieldFault}
use Rattle.page_redo.specs.Rows.{change_fault}
use Rattle.write_order.specs.declared.rank.Rank.{Rank}
use Rattle.write_order.specs.Ranks.{rank_of}
use Rattle.restart_records.specs.declared.queue.TurnKey.{TurnKey}
use Rattle.restart_records.specs.declared.trans.Newest.{Newest}
use Rattle.restart_records.specs.declared.trans.RestartTran.{RestartTran}
use Rattle.restart_records.specs.Queue.{ranked_key}
use Rattle.restart_records.specs.Trans.{TransState, after_back, after_end, is_last, is_open, is_undone, is_undone_by, newest, newest_at, newest_by, newest_of, no_trans, page_of, page_undone, tran_in}
use Rattle.restart_marks.specs.declared.told.RestartTold.{RestartTold}
use Rattle.restart_marks.specs.declared.told.RestartTold.TheVariants as told
use Rattle.restart_marks.specs.Hands as hand
use Rattle.restart_marks.specs.Listing.{entered_name, name_purged_after, page_freed, page_purged_after, record_after}
use Rattle.restart_marks.specs.Locks.{claim_after, released_after, up_after}
use Rattle.restart_marks.specs.Moves.{Close, Local, PutDown, Reaches, TakeUpRetained, TakeUpUndone, all_moved, closing_record, fits_in, is_recovered, may_close, may_put_down, moved, retained_from, undone_from}
use Rattle.restart_marks.specs.State.{RestartState, no_hand, with_hand}
use Rattle.restart_marks.specs.Undoing.{may_undo, undone_as}
use Rattle.restart_resources.specs.Forward.{own_forward}
use Rattle.restart_resources.specs.Held.{Held, with_page}
use Rattle.restart_resources.specs.Settled.{bring_after, brought_after, drawn_after, drawn_after_by, noted, read_after, read_in, ready_after, ready_after_at, settle_undo_after, tested_after, tested_in, undo_after_by}
use Rattle.restart_law.proofs.Opens.{Near, near, near_on, purges, retains, trans_near}
use Rattle.restart_law.proofs.Trans.{Less, back, ends, less_on, still_open}

pub either : (b : Bool) (s t u : RestartState) → Near s t → Near s u → Near s (if b then t else u)
either true s t u x y = x
either false s t u x y = y

pub either_held : (b : Bool) (s : RestartState) (h k : Held) → Near s h.marks → Near s k.marks → Near s (if b then h else k).marks
either_held true s h k x y = x
either_held false s h k x y = y

-- nothing but the hand, the pages, the log, the counter and the lock are others
pub still : (s t : RestartState) → t.member ≡ s.member → t.log ≡ s.log → t.own ≡ s.own → t.names ≡ s.names → t.trans ≡ s.trans → Near s t
still s t member log own names trans = trans_near s t member (λ _. ap (λ (z : LogBuffer). z.pending) log) own names (λ e. trans ∙ e) (subst (λ (z : TransState). Less s.own.records s.trans z) (sym trans) (near s).less)

-- ---- the page in hand
ranked : (s : RestartState) (key to : TurnKey) → Near s (hand.ranked_after s key to)
ranked s key to = either (key.turn == 0) s (hand.moved_to s key to) s (still s (hand.moved_to s key to) refl refl refl refl refl) (near s)

noted_near : (s t : RestartState) (raised : Bool) (number : ℕ) → Near s t → Near s (hand.noted t raised number)
noted_near s t raised number n = near_on s t (hand.noted t raised number) n (still t (hand.noted t raised number) refl refl refl refl refl)

noted_with : (s : RestartState) (key : Option TurnKey) (page : Option PageId) (raised : Bool) (number : ℕ) (rank : Rank) → Near s (hand.noted_with s key page raised number rank)
noted_with s None page raised number rank = near s
noted_with s (Some key) None raised number rank = near s
noted_with s (Some key) (Some page) raised number rank = noted_near s (hand.ranked_after s key (ranked_key page rank)) raised number (ranked s key (ranked_key page rank))

met : (s t : RestartState) (number : ℕ) → Near s t → Near s (hand.met t number)
met s t number n = near_on s t (hand.met t number) n (still t (hand.met t number) refl refl refl refl refl)

readied : (s : RestartState) (raised : Bool) (number : ℕ) (rank : Rank) → Near s (hand.ready_after s raised number rank)
readied s raised number rank = met s (hand.noted_with s s.hand.key s.hand.page raised number rank) number (noted_with s s.hand.key s.hand.page raised number rank)

brought : (h : Held) (page : PageId) (outcome : Result Bool FieldFault) → Near h.marks (brought_after h page outcome).marks
brought h page (Ok raised) = readied h.marks raised (lrsn_of h.page) (rank_of page h.page)
brought h page (Err fault) = near h.marks

bring : (h : Held) (page : PageId) → Near h.marks (bring_after h page).marks
bring h page = either_held (is_none h.marks.hand.key) h.marks (noted h page false) (brought_after (with_page h (own_forward page h.page h.marks).page) page (own_forward page h.page h.marks).outcome)
    (readied h.marks false (lrsn_of h.page) (rank_of page h.page)) (brought (with_page h (own_forward page h.page h.marks).page) page (own_forward page h.page h.marks).outcome)

ready_at : (h : Held) (o : Option PageId) → Near h.marks (ready_after_at h o).marks
ready_at h None = near h.marks
ready_at h (Some page) = bring h page

ready : (h : Held) (x : RestartTold) → Near h.marks (ready_after h x).marks
ready h told.Ready = ready_at h h.marks.hand.page
ready h told.Stepped = near h.marks
ready h told.LogBlock = near h.marks
ready h told.LogWhole = near h.marks
ready h told.TailCut = near h.marks
ready h (told.Record n) = near h.marks
ready h told.NoRecord = near h.marks
ready h told.Purged = near h.marks
ready h told.ToFill = near h.marks
ready h told.Filled = near h.marks
ready h told.Invalid = near h.marks
ready h told.Written = near h.marks
ready h told.Lost = near h.marks
ready h told.CacheFull = near h.marks
ready h told.Granted = near h.marks
ready h (told.Retained by) = near h.marks
ready h told.RecordsFull = near h.marks
ready h (told.Contention share exclusive) = near h.marks
ready h told.Moved = near h.marks
ready h (told.Cells is_open is_emptied) = near h.marks
ready h (told.Status status) = near h.marks
ready h told.Released = near h.marks
ready h told.Undone = near h.marks
ready h told.Stale = near h.marks
ready h told.Forced = near h.marks
ready h told.Up = near h.marks
ready h told.Failed = near h.marks
ready h (told.Damaged volume at) = near h.marks

with_hands : (h k : Held) (x : RestartTold) → Near h.marks k.marks → Near h.marks (ready_after k x).marks
with_hands h k x n = near_on h.marks k.marks (ready_after k x).marks n (ready k x)

pub reads : (h : Held) (answer : Reply) → Near h.marks (read_after h answer).marks
reads h answer = with_hands h (read_in h answer) (hand.read_told h.marks.hand answer) (still h.marks (read_in h answer).marks refl refl refl refl refl)

pub tests : (h : Held) (answer : Reply) → Near h.marks (tested_after h answer).marks
tests h answer = with_hands h (tested_in h answer) (hand.tested_told answer) (still h.marks (tested_in h answer).marks refl refl refl refl refl)

pub writes : (s : RestartState) (answer : Reply) → Near s (with_hand s (hand.written_after s.hand answer))
writes s answer = still s (with_hand s (hand.written_after s.hand answer)) refl refl refl refl refl

-- ---- retained records
listed_name : (s : RestartState) (n : Name) → s.own.is_read ≡ true → Near s (entered_name s n)
listed_name s (name.Space t) read = retains s (name.Space t) read
listed_name s (name.Row t k) read = retains s (name.Row t k) read
listed_name s (name.Page p) read = still s (entered_name s (name.Page p)) refl refl refl refl refl
listed_name s (name.Set n) read = retains s (name.Set n) read

lists_one : (s : RestartState) (n : Name) (mode : _) → s.own.is_read ≡ true → Near s (record_after s (reply.RetainedLock n mode))
lists_one s n mode read = near_on s (entered_name s n) (record_after s (reply.RetainedLock n mode)) (listed_name s n read) (still (entered_name s n) (record_after s (reply.RetainedLock n mode)) refl refl refl refl refl)

pub lists : (s : RestartState) (answer : Reply) → s.own.is_read ≡ true → Near s (record_after s answer)
lists s (reply.Granted version) read = still s (record s { is_listed = true }) refl refl refl refl refl
lists s (reply.Retained by) read = still s (record s { is_listed = true }) refl refl refl refl refl
lists s (reply.RecordsFull limit) read = still s (record s { is_listed = true }) refl refl refl refl refl
lists s (reply.Contention share exclusive version) read = still s (record s { is_listed = true }) refl refl refl refl refl
lists s (reply.Moved version) read = still s (record s { is_listed = true }) refl refl refl refl refl
lists s (reply.RetainedLock other mode) read = lists_one s other mode read
lists s reply.Done read = still s (record s { is_listed = true }) refl refl refl refl refl
lists s reply.Nothing read = still s (record s { is_listed = true }) refl refl refl refl refl
lists s reply.Found read = still s (record s { is_listed = true }) refl refl refl refl refl
lists s reply.NoData read = still s (record s { is_listed = true }) refl refl refl refl refl
lists s reply.CacheFull read = still s (record s { is_listed = true }) refl refl refl refl refl
lists s reply.Lost read = still s (record s { is_listed = true }) refl refl refl refl refl
lists s reply.Written read = still s (record s { is_listed = true }) refl refl refl refl refl
lists s reply.Valid read = still s (record s { is_listed = true }) refl refl refl refl refl
lists s reply.Invalid read = still s (record s { is_listed = true }) refl refl refl refl refl
lists s reply.Taken read = still s (record s { is_listed = true }) refl refl refl refl refl
lists s reply.NotChanged read = still s (record s { is_listed = true }) refl refl refl refl refl
lists s (reply.Locked by) read = still s (record s { is_listed = true }) refl refl refl refl refl
lists s reply.NotHeld read = still s (record s { is_listed = true }) refl refl refl refl refl
lists s (reply.ChangedPage other) read = still s (record s { is_listed = true }) refl refl refl refl refl
lists s (reply.Query query) read = still s (record s { is_listed = true }) refl refl refl refl refl
lists s reply.Gone read = still s (record s { is_listed = true }) refl refl refl refl refl
lists s reply.Cells read = still s (record s { is_listed = true }) refl refl refl refl refl
lists s reply.Waits read = still s (record s { is_listed = true }) refl refl refl refl refl
lists s reply.Raised read = still s (record s { is_listed = true }) refl refl refl refl refl
lists s reply.NotRaised read = still s (record s { is_listed = true }) refl refl refl refl refl
lists s (reply.Status status) read = still s (record s { is_listed = true }) refl refl refl refl refl
lists s reply.NotLost read = still s (record s { is_listed = true }) refl refl refl refl refl
lists s (reply.ClaimTaken by) read = still s (record s { is_listed = true }) refl refl refl refl refl
lists s reply.Claimed read = still s (record s { is_listed = true }) refl refl refl refl refl
lists s (reply.Drawn lrsn) read = still s (record s { is_listed = true }) refl refl refl refl refl
lists s (reply.Stale index) read = still s (record s { is_listed = true }) refl refl refl refl refl
lists s (reply.LrsnEnd at) read = still s (record s { is_listed = true }) refl refl refl refl refl

freed : (s : RestartState) (o : Option TurnKey) → Near s (page_freed s o)
freed s None = near s
freed s (Some key) = still s (page_freed s (Some key)) refl refl refl refl refl

pub page_purged : (s : RestartState) (answer : Reply) → Near s (page_purged_after s answer)
page_purged s (reply.Granted version) = near s
page_purged s (reply.Retained by) = near s
page_purged s (reply.RecordsFull limit) = near s
page_purged s (reply.Contention share exclusive version) = near s
page_purged s (reply.Moved version) = near s
page_purged s (reply.RetainedLock other mode) = near s
page_purged s reply.Done = freed s s.hand.key
page_purged s reply.Nothing = near s
page_purged s reply.Found = near s
page_purged s reply.NoData = near s
page_purged s reply.CacheFull = near s
page_purged s reply.Lost = near s
page_purged s reply.Written = near s
page_purged s reply.Valid = near s
page_purged s reply.Invalid = near s
page_purged s reply.Taken = near s
page_purged s reply.NotChanged = near s
page_purged s (reply.Locked by) = near s
page_purged s reply.NotHeld = near s
page_purged s (reply.ChangedPage other) = near s
page_purged s (reply.Query query) = near s
page_purged s reply.Gone = near s
page_purged s reply.Cells = near s
page_purged s reply.Waits = near s
page_purged s reply.Raised = near s
page_purged s reply.NotRaised = near s
page_purged s (reply.Status status) = near s
page_purged s reply.NotLost = near s
page_purged s (reply.ClaimTaken by) = near s
page_purged s reply.Claimed = near s
page_purged s (reply.Drawn lrsn) = near s
page_purged s (reply.Stale index) = near s
page_purged s (reply.LrsnEnd at) = near s

pub name_purged : (s : RestartState) (n : Name) (answer : Reply) → Near s (name_purged_after s n answer)
name_purged s n (reply.Granted version) = near s
name_purged s n (reply.Retained by) = near s
name_purged s n (reply.RecordsFull limit) = near s
name_purged s n (reply.Contention share exclusive version) = near s
name_purged s n (reply.Moved version) = near s
name_purged s n (reply.RetainedLock other mode) = near s
name_purged s n reply.Done = purges s n
name_purged s n reply.Nothing = near s
name_purged s n reply.Found = near s
name_purged s n reply.NoData = near s
name_purged s n reply.CacheFull = near s
name_purged s n reply.Lost = near s
name_purged s n reply.Written = near s
name_purged s n reply.Valid = near s
name_purged s n reply.Invalid = near s
name_purged s n reply.Taken = near s
name_purged s n reply.NotChanged = near s
name_purged s n (reply.Locked by) = near s
name_purged s n reply.NotHeld = near s
name_purged s n (reply.ChangedPage other) = near s
name_purged s n (reply.Query query) = near s
name_purged s n reply.Gone = near s
name_purged s n reply.Cells = near s
name_purged s n reply.Waits = near s
name_purged s n reply.Raised = near s
name_purged s n reply.NotRaised = near s
name_purged s n (reply.Status status) = near s
name_purged s n reply.NotLost = near s
name_purged s n (reply.ClaimTaken by) = near s
name_purged s n reply.Claimed = near s
name_purged s n (reply.Drawn lrsn) = near s
name_purged s n (reply.Stale index) = near s
name_purged s n (reply.LrsnEnd at) = near s

-- ---- the page's lock, and the end
pub claims : (s : RestartState) (id : ℕ) (answer : Reply) → Near s (claim_after s id answer)
claims s id (reply.Granted version) = still s (claim_after s id (reply.Granted version)) refl refl refl refl refl
claims s id (reply.Retained by) = still s (claim_after s id (reply.Retained by)) refl refl refl refl refl
claims s id (reply.RecordsFull limit) = still s (claim_after s id (reply.RecordsFull limit)) refl refl refl refl refl
claims s id (reply.Contention share exclusive version) = still s (claim_after s id (reply.Contention share exclusive version)) refl refl refl refl refl
claims s id (reply.Moved version) = still s (claim_after s id (reply.Moved version)) refl refl refl refl refl
claims s id (reply.RetainedLock other mode) = still s (claim_after s id (reply.RetainedLock other mode)) refl refl refl refl refl
claims s id reply.Done = still s (claim_after s id reply.Done) refl refl refl refl refl
claims s id reply.Nothing = still s (claim_after s id reply.Nothing) refl refl refl refl refl
claims s id reply.Found = still s (claim_after s id reply.Found) refl refl refl refl refl
claims s id reply.NoData = still s (claim_after s id reply.NoData) refl refl refl refl refl
claims s id reply.CacheFull = still s (claim_after s id reply.CacheFull) refl refl refl refl refl
claims s id reply.Lost = still s (claim_after s id reply.Lost) refl refl refl refl refl
claims s id reply.Written = still s (claim_after s id reply.Written) refl refl refl refl refl
claims s id reply.Valid = still s (claim_after s id reply.Valid) refl refl refl refl refl
claims s id reply.Invalid = still s (claim_after s id reply.Invalid) refl refl refl refl refl
claims s id reply.Taken = still s (claim_after s id reply.Taken) refl refl refl refl refl
claims s id reply.NotChanged = still s (claim_after s id reply.NotChanged) refl refl refl refl refl
claims s id (reply.Locked by) = still s (claim_after s id (reply.Locked by)) refl refl refl refl refl
claims s id reply.NotHeld = still s (claim_after s id reply.NotHeld) refl refl refl refl refl
claims s id (reply.ChangedPage other) = still s (claim_after s id (reply.ChangedPage other)) refl refl refl refl refl
claims s id (reply.Query query) = still s (claim_after s id (reply.Query query)) refl refl refl refl refl
claims s id reply.Gone = still s (claim_after s id reply.Gone) refl refl refl refl refl
claims s id reply.Cells = still s (claim_after s id reply.Cells) refl refl refl refl refl
claims s id reply.Waits = still s (claim_after s id reply.Waits) refl refl refl refl refl
claims s id reply.Raised = still s (claim_after s id reply.Raised) refl refl refl refl refl
claims s id reply.NotRaised = still s (claim_after s id reply.NotRaised) refl refl refl refl refl
claims s id (reply.Status status) = still s (claim_after s id (reply.Status status)) refl refl refl refl refl
claims s id reply.NotLost = still s (claim_after s id reply.NotLost) refl refl refl refl refl
claims s id (reply.ClaimTaken by) = still s (claim_after s id (reply.ClaimTaken by)) refl refl refl refl refl
claims s id reply.Claimed = still s (claim_after s id reply.Claimed) refl refl refl refl refl
claims s id (reply.Drawn lrsn) = still s (claim_after s id (reply.Drawn lrsn)) refl refl refl refl refl
claims s id (reply.Stale index) = still s (claim_after s id (reply.Stale index)) refl refl refl refl refl
claims s id (reply.LrsnEnd at) = still s (claim_after s id (reply.LrsnEnd at)) refl refl refl refl refl

pub releases : (s : RestartState) (answer : Reply) → Near s (released_after s answer)
releases s (reply.Granted version) = still s (released_after s (reply.Granted version)) refl refl refl refl refl
releases s (reply.Retained by) = still s (released_after s (reply.Retained by)) refl refl refl refl refl
releases s (reply.RecordsFull limit) = still s (released_after s (reply.RecordsFull limit)) refl refl refl refl refl
releases s (reply.Contention share exclusive version) = still s (released_after s (reply.Contention share exclusive version)) refl refl refl refl refl
releases s (reply.Moved version) = still s (released_after s (reply.Moved version)) refl refl refl refl refl
releases s (reply.RetainedLock other mode) = still s (released_after s (reply.RetainedLock other mode)) refl refl refl refl refl
releases s reply.Done = still s (released_after s reply.Done) refl refl refl refl refl
releases s reply.Nothing = still s (released_after s reply.Nothing) refl refl refl refl refl
releases s reply.Found = still s (released_after s reply.Found) refl refl refl refl refl
releases s reply.NoData = still s (released_after s reply.NoData) refl refl refl refl refl
releases s reply.CacheFull = still s (released_after s reply.CacheFull) refl refl refl refl refl
releases s reply.Lost = still s (released_after s reply.Lost) refl refl refl refl refl
releases s reply.Written = still s (released_after s reply.Written) refl refl refl refl refl
releases s reply.Valid = still s (released_after s reply.Valid) refl refl refl refl refl
releases s reply.Invalid = still s (released_after s reply.Invalid) refl refl refl refl refl
releases s reply.Taken = still s (released_after s reply.Taken) refl refl refl refl refl
releases s reply.NotChanged = still s (released_after s reply.NotChanged) refl refl refl refl refl
releases s (reply.Locked by) = still s (released_after s (reply.Locked by)) refl refl refl refl refl
releases s reply.NotHeld = still s (released_after s reply.NotHeld) refl refl refl refl refl
releases s (reply.ChangedPage other) = still s (released_after s (reply.ChangedPage other)) refl refl refl refl refl
releases s (reply.Query query) = still s (released_after s (reply.Query query)) refl refl refl refl refl
releases s reply.Gone = still s (released_after s reply.Gone) refl refl refl refl refl
releases s reply.Cells = still s (released_after s reply.Cells) refl refl refl refl refl
releases s reply.Waits = still s (released_after s reply.Waits) refl refl refl refl refl
releases s reply.Raised = still s (released_after s reply.Raised) refl refl refl refl refl
releases s reply.NotRaised = still s (released_after s reply.NotRaised) refl refl refl refl refl
releases s (reply.Status status) = still s (released_after s (reply.Status status)) refl refl refl refl refl
releases s reply.NotLost = still s (released_after s reply.NotLost) refl refl refl refl refl
releases s (reply.ClaimTaken by) = still s (released_after s (reply.ClaimTaken by)) refl refl refl refl refl
releases s reply.Claimed = still s (released_after s reply.Claimed) refl refl refl refl refl
releases s (reply.Drawn lrsn) = still s (released_after s (reply.Drawn lrsn)) refl refl refl refl refl
releases s (reply.Stale index) = still s (released_after s (reply.Stale index)) refl refl refl refl refl
releases s (reply.LrsnEnd at) = still s (released_after s (reply.LrsnEnd at)) refl refl refl refl refl

pub ups : (s : RestartState) (answer : Reply) → Near s (up_after s answer)
ups s (reply.Granted version) = still s (up_after s (reply.Granted version)) refl refl refl refl refl
ups s (reply.Retained by) = still s (up_after s (reply.Retained by)) refl refl refl refl refl
ups s (reply.RecordsFull limit) = still s (up_after s (reply.RecordsFull limit)) refl refl refl refl refl
ups s (reply.Contention share exclusive version) = still s (up_after s (reply.Contention share exclusive version)) refl refl refl refl refl
ups s (reply.Moved version) = still s (up_after s (reply.Moved version)) refl refl refl refl refl
ups s (reply.RetainedLock other mode) = still s (up_after s (reply.RetainedLock other mode)) refl refl refl refl refl
ups s reply.Done = still s (up_after s reply.Done) refl refl refl refl refl
ups s reply.Nothing = still s (up_after s reply.Nothing) refl refl refl refl refl
ups s reply.Found = still s (up_after s reply.Found) refl refl refl refl refl
ups s reply.NoData = still s (up_after s reply.NoData) refl refl refl refl refl
ups s reply.CacheFull = still s (up_after s reply.CacheFull) refl refl refl refl refl
ups s reply.Lost = still s (up_after s reply.Lost) refl refl refl refl refl
ups s reply.Written = still s (up_after s reply.Written) refl refl refl refl refl
ups s reply.Valid = still s (up_after s reply.Valid) refl refl refl refl refl
ups s reply.Invalid = still s (up_after s reply.Invalid) refl refl refl refl refl
ups s reply.Taken = still s (up_after s reply.Taken) refl refl refl refl refl
ups s reply.NotChanged = still s (up_after s reply.NotChanged) refl refl refl refl refl
ups s (reply.Locked by) = still s (up_after s (reply.Locked by)) refl refl refl refl refl
ups s reply.NotHeld = still s (up_after s reply.NotHeld) refl refl refl refl refl
ups s (reply.ChangedPage other) = still s (up_after s (reply.ChangedPage other)) refl refl refl refl refl
ups s (reply.Query query) = still s (up_after s (reply.Query query)) refl refl refl refl refl
ups s reply.Gone = still s (up_after s reply.Gone) refl refl refl refl refl
ups s reply.Cells = still s (up_after s reply.Cells) refl refl refl refl refl
ups s reply.Waits = still s (up_after s reply.Waits) refl refl refl refl refl
ups s reply.Raised = still s (up_after s reply.Raised) refl refl refl refl refl
ups s reply.NotRaised = still s (up_after s reply.NotRaised) refl refl refl refl refl
ups s (reply.Status status) = still s (up_after s (reply.Status status)) refl refl refl refl refl
ups s reply.NotLost = still s (up_after s reply.NotLost) refl refl refl refl refl
ups s (reply.ClaimTaken by) = still s (up_after s (reply.ClaimTaken by)) refl refl refl refl refl
ups s reply.Claimed = still s (up_after s reply.Claimed) refl refl refl refl refl
ups s (reply.Drawn lrsn) = still s (up_after s (reply.Drawn lrsn)) refl refl refl refl refl
ups s (reply.Stale index) = still s (up_after s (reply.Stale index)) refl refl refl refl refl
ups s (reply.LrsnEnd at) = still s (up_after s (reply.LrsnEnd at)) refl refl refl refl refl

-- ---- changes that are taken back
-- whose newest change stands is open
some_none : {A : Type 0} → (a : A) → None ≡ Some a → ⊥
some_none a e = cc

newest_open : (o : Option RestartTran) (it : Newest) → newest_by o ≡ Some it → IfSome o (λ x. is_open x ≡ true)
newest_open None it e = tt
newest_open (Some x) it e = by (is_open x) refl (not (x.stands == 0)) e
  where
    by : (b : Bool) → is_open x ≡ b → (c : Bool) → (if b && c then newest_at (slice_get x.tran.undo (x.stands - 1)) else None) ≡ Some it → is_open x ≡ true
    by true is c e = is
    by false is c e = absurd (some_none it e)

undone_trans : (s : RestartState) (id : ℕ) (b : Bool) → IfSome (tran_in s.trans id) (λ x. is_open x ≡ true) → Less s.own.records s.trans (if b then after_end (after_back s.trans id) id else after_back s.trans id)
undone_trans s id true opened = less_on s.own.records s.trans (after_back s.trans id) (after_end (after_back s.trans id) id) (back s.own.records s.trans id) (ends s.own.records (after_back s.trans id) id (still_open s.trans id opened))
undone_trans s id false opened = back s.own.records s.trans id

none_undone : (id : ℕ) (b : Bool) → (if b then after_end (after_back no_trans id) id else after_back no_trans id) ≡ no_trans
none_undone id true = refl
none_undone id false = refl

none_newest : (id : ℕ) (it : Newest) → newest no_trans id ≡ Some it → ⊥
none_newest id it e = some_none it e

undone : (s : RestartState) (id lrsn : ℕ) (o : Option Newest) → newest s.trans id ≡ o → Near s (undone_as s id lrsn o)
undone s id lrsn None is = near s
undone s id lrsn (Some it) is = trans_near s (undone_as s id lrsn (Some it)) refl (λ e. absurd (none_newest id it (sym (ap (λ (z : TransState). newest z id) e) ∙ is))) refl refl
    (λ e. ap (λ (z : TransState). if is_last s.trans id then after_end (after_back z id) id else after_back z id) e ∙ none_undone id (is_last s.trans id))
    (undone_trans s id (is_last s.trans id) (newest_open (tran_in s.trans id) it is))

undone_held : (h : Held) (id lrsn : ℕ) (it : Newest) (o : Option ℕ) → Near h.marks (undo_after_by h id lrsn it o).marks
undone_held h id lrsn it None = either (may_undo h.marks id lrsn) h.marks (undone_as h.marks id lrsn (newest h.marks.trans id)) h.marks (undone h.marks id lrsn (newest h.marks.trans id) refl) (near h.marks)
undone_held h id lrsn it (Some at) = near h.marks

drawn_by : (h : Held) (id lrsn : ℕ) (o : Option Newest) → Near h.marks (drawn_after_by h id lrsn o).marks
drawn_by h id lrsn None = near h.marks
drawn_by h id lrsn (Some it) = undone_held h id lrsn it (change_fault (page_of it.change) it.change h.page)

drawn : (h : Held) (id lrsn : ℕ) → Near h.marks (drawn_after h id lrsn).marks
drawn h id lrsn = either_held (may_undo h.marks id lrsn) h.marks (drawn_after_by h id lrsn (newest h.marks.trans id)) h (drawn_by h id lrsn (newest h.marks.trans id)) (near h.marks)

stale : (h : Held) (index : ℕ) (id : ℕ) → Near h.marks (settle_undo_after h id (reply.Stale index)).marks
stale h index id = still h.marks (settle_undo_after h id (reply.Stale index)).marks refl refl refl refl refl

pub undoes : (h : Held) (id : ℕ) (answer : Reply) → Near h.marks (settle_undo_after h id answer).marks
undoes h id (reply.Granted version) = near h.marks
undoes h id (reply.Retained by) = near h.marks
undoes h id (reply.RecordsFull limit) = near h.marks
undoes h id (reply.Contention share exclusive version) = near h.marks
undoes h id (reply.Moved version) = near h.marks
undoes h id (reply.RetainedLock other mode) = near h.marks
undoes h id reply.Done = near h.marks
undoes h id reply.Nothing = near h.marks
undoes h id reply.Found = near h.marks
undoes h id reply.NoData = near h.marks
undoes h id reply.CacheFull = near h.marks
undoes h id reply.Lost = near h.marks
undoes h id reply.Written = near h.marks
undoes h id reply.Valid = near h.marks
undoes h id reply.Invalid = near h.marks
undoes h id reply.Taken = near h.marks
undoes h id reply.NotChanged = near h.marks
undoes h id (reply.Locked by) = near h.marks
undoes h id reply.NotHeld = near h.marks
undoes h id (reply.ChangedPage other) = near h.marks
undoes h id (reply.Query query) = near h.marks
undoes h id reply.Gone = near h.marks
undoes h id reply.Cells = near h.marks
undoes h id reply.Waits = near h.marks
undoes h id reply.Raised = near h.marks
undoes h id reply.NotRaised = near h.marks
undoes h id (reply.Status status) = near h.marks
undoes h id reply.NotLost = near h.marks
undoes h id (reply.ClaimTaken by) = near h.marks
undoes h id reply.Claimed = near h.marks
undoes h id (reply.Drawn lrsn) = drawn h id lrsn
undoes h id (reply.Stale index) = stale h index id
undoes h id (reply.LrsnEnd at) = near h.marks

-- ---- local moves
retained : (s : RestartState) (o : Option TurnKey) → Near s (retained_from s o)
retained s None = near s
retained s (Some key) = still s (retained_from s (Some key)) refl refl refl refl refl

taken_up : (s : RestartState) (o : Option PageId) → Near s (undone_from s o)
taken_up s None = near s
taken_up s (Some p) = still s (undone_from s (Some p)) refl refl refl refl refl

-- a transaction that is closed was open
undone_open : (o : Option RestartTran) → is_undone_by o ≡ true → IfSome o (λ x. is_open x ≡ true)
undone_open None e = tt
undone_open (Some x) e = (and_parts (is_open x) (x.stands == 0) e).0

may_close_open : (s : RestartState) (id : ℕ) → may_close s id ≡ true → is_undone s.trans id ≡ true
may_close_open s id e =
    let p = and_parts (not (id == 0)) (not (is_some s.trans.ending) && (is_undone s.trans id && fits_in s.log (closing_record s id))) e in
    let q = and_parts (not (is_some s.trans.ending)) (is_undone s.trans id && fits_in s.log (closing_record s id)) p.1 in
    (and_parts (is_undone s.trans id) (fits_in s.log (closing_record s id)) q.1).0

none_closed : (id : ℕ) → is_undone no_trans id ≡ true → ⊥
none_closed id e = absurd cc

closes : (s : RestartState) (id : ℕ) → may_close s id ≡ true → Near s (record s { log = after_put s.log (closing_record s id); trans = after_end s.trans id })
closes s id may = trans_near s (record s { log = after_put s.log (closing_record s id); trans = after_end s.trans id }) refl
    (λ e. absurd (none_closed id (sym (ap (λ (z : TransState). is_undone z id) e) ∙ may_close_open s id may))) refl refl
    (λ e. ap (λ (z : TransState). after_end z id) e)
    (ends s.own.records s.trans id (undone_open (tran_in s.trans id) (may_close_open s id may)))

close_by : (s : RestartState) (id : ℕ) (b : Bool) → may_close s id ≡ b → Near s (if b then record s { log = after_put s.log (closing_record s id); trans = after_end s.trans id } else s)
close_by s id true may = closes s id may
close_by s id false may = near s

one : (x : Local) (s : RestartState) → Near s (moved x s)
one TakeUpRetained s = either (is_none s.hand.page) s (retained_from s (slice_get s.pages 0)) s (retained s (slice_get s.pages 0)) (near s)
one (TakeUpUndone id) s = either (is_none s.hand.page && is_recovered s) s (undone_from s (page_undone s.trans id)) s (taken_up s (page_undone s.trans id)) (near s)
one PutDown s = either (may_put_down s.hand s.claim) s (with_hand s no_hand) s (still s (with_hand s no_hand) refl refl refl refl refl) (near s)
one (Close id) s = close_by s id (may_close s id) refl

all : (xs : List Local) (s : RestartState) → Near s (all_moved xs s)
all [] s = near s
all (x ∷ xs) s = near_on s (moved x s) (all_moved xs (moved x s)) (one x s) (all xs (moved x s))

pub locals : (s t : RestartState) → Reaches s t → Near s t
unfolding Reaches
locals s t r = subst (λ z. Near s z) (sym r.1) (all r.0 s)
