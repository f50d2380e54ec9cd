-- What the replies to a restart leave as it was, and what its local moves and the replies put.
use Rattle.std.proofs.Common.{◌≡◌, ℕ, refl, sym, ◌∙◌, ap, subst, Bool, true, false, List, [], ◌∷◌, Option, Some, None, Result, Ok, Err}
use Rattle.std.specs.Prelude.{◌&&◌, ◌==◌, if◌then◌else◌, is_none, slice_get}
use Rattle.ds_base.specs.declared.names.PageId.{PageId}
use Rattle.ds_model.specs.RecordBytes.{IsNumber}
use Rattle.ds_model.specs.declared.lock.Name.{Name}
use Rattle.ds_model.specs.declared.lock.Name.TheVariants as name
use Rattle.ds_model.specs.declared.log.Version.TheVariants as version
use Rattle.facility.specs.declared.command.Reply.{Reply}
use Rattle.facility.specs.declared.command.Reply.TheVariants as reply
use Rattle.log_rows.specs.Rows.{BothTell}
use Rattle.page_format.specs.Fields.{lrsn_of}
use Rattle.page_redo.specs.declared.fault.FieldFault.{FieldFault}
use Rattle.page_redo.specs.Rows.{change_fault}
use Rattle.write_order.specs.declared.rank.Rank.{Rank}
use Rattle.write_order.specs.Ranks.{rank_of}
use Rattle.restart_records.specs.declared.queue.TurnKey.{TurnKey}
use Rattle.restart_records.specs.declared.trans.Newest.{Newest}
use Rattle.restart_records.specs.Queue.{ranked_key}
use Rattle.restart_records.specs.Trans.{newest, page_of, page_undone}
use Rattle.restart_marks.specs.declared.intent.RestartIntent.{RestartIntent}
use Rattle.restart_marks.specs.declared.intent.RestartIntent.TheVariants as intent
use Rattle.restart_marks.specs.declared.told.RestartTold.{RestartTold}
use Rattle.restart_marks.specs.declared.told.RestartTold.TheVariants as told
use Rattle.restart_marks.specs.Hands as hand
use Rattle.restart_marks.specs.Listing.{entered_name, name_purged_after, page_freed, page_purged_after, record_after}
use Rattle.restart_marks.specs.Locks.{claim_after, released_after, up_after}
use Rattle.restart_marks.specs.Moves.{Close, Local, PutDown, Reaches, TakeUpRetained, TakeUpUndone, all_moved, is_recovered, may_put_down, moved, retained_from, undone_from}
use Rattle.restart_marks.specs.State.{RestartState, no_hand, with_hand}
use Rattle.restart_marks.specs.Undoing.{may_undo, undone_after}
use Rattle.restart_resources.specs.Forward.{own_forward}
use Rattle.restart_resources.specs.Held.{Held, with_page}
use Rattle.restart_resources.specs.Settled.{bring_after, brought_after, drawn_after, drawn_after_by, noted, read_after, read_in, ready_after, ready_after_at, settle_undo_after, settled, tested_after, tested_in, undo_after_by}
use Rattle.restart_closing.proofs.Steps.{Same, Step, same, same_on, step_close, step_if, step_itself, step_on, step_same, step_undo}

either : (b : Bool) (s t u : RestartState) → Same s t → Same s u → Same s (if b then t else u)
either true s t u x y = x
either false s t u x y = y

either_held : (b : Bool) (s : RestartState) (h k : Held) → Same s h.marks → Same s k.marks → Same s (if b then h else k).marks
either_held true s h k x y = x
either_held false s h k x y = y

unchanged : (s t : RestartState) → t.member ≡ s.member → t.own ≡ s.own → t.log ≡ s.log → t.trans ≡ s.trans → Same s t
unchanged s t member own log trans = record { member = member; own = own; log = log; trans = trans }

-- ---- the page in hand
ranked : (s : RestartState) (key to : TurnKey) → Same s (hand.ranked_after s key to)
ranked s key to = either (key.turn == 0) s (hand.moved_to s key to) s (unchanged s (hand.moved_to s key to) refl refl refl refl) (same s)

noted_with : (s : RestartState) (key : Option TurnKey) (page : Option PageId) (raised : Bool) (number : ℕ) (rank : Rank) → Same s (hand.noted_with s key page raised number rank)
noted_with s None page raised number rank = same s
noted_with s (Some key) None raised number rank = same s
noted_with s (Some key) (Some page) raised number rank = at (ranked s key (ranked_key page rank))
  where
    at : Same s (hand.ranked_after s key (ranked_key page rank)) → Same s (hand.noted (hand.ranked_after s key (ranked_key page rank)) raised number)
    at e = record { member = e.member; own = e.own; log = e.log; trans = e.trans }

readied : (s : RestartState) (raised : Bool) (number : ℕ) (rank : Rank) → Same s (hand.ready_after s raised number rank)
readied s raised number rank = at (noted_with s s.hand.key s.hand.page raised number rank)
  where
    at : Same s (hand.noted_with s s.hand.key s.hand.page raised number rank) → Same s (hand.ready_after s raised number rank)
    at e = record { member = e.member; own = e.own; log = e.log; trans = e.trans }

brought : (h : Held) (page : PageId) (outcome : Result Bool FieldFault) → Same h.marks (brought_after h page outcome).marks
brought h page (Ok raised) = readied h.marks raised (lrsn_of h.page) (rank_of page h.page)
brought h page (Err fault) = same h.marks

bring : (h : Held) (page : PageId) → Same h.marks (bring_after h page).marks
bring h page = either_held (is_none h.marks.hand.key) h.marks (noted h page false) (brought_after (with_page h (own_forward page h.page h.marks).page) page (own_forward page h.page h.marks).outcome)
    (readied h.marks false (lrsn_of h.page) (rank_of page h.page)) (brought (with_page h (own_forward page h.page h.marks).page) page (own_forward page h.page h.marks).outcome)

ready_at : (h : Held) (o : Option PageId) → Same h.marks (ready_after_at h o).marks
ready_at h None = same h.marks
ready_at h (Some page) = bring h page

ready : (h : Held) (x : RestartTold) → Same h.marks (ready_after h x).marks
ready h told.Stepped = same h.marks
ready h told.LogBlock = same h.marks
ready h told.LogWhole = same h.marks
ready h told.TailCut = same h.marks
ready h (told.Record n) = same h.marks
ready h told.NoRecord = same h.marks
ready h told.Purged = same h.marks
ready h told.ToFill = same h.marks
ready h told.Filled = same h.marks
ready h told.Invalid = same h.marks
ready h told.Ready = ready_at h h.marks.hand.page
ready h told.Written = same h.marks
ready h told.Lost = same h.marks
ready h told.CacheFull = same h.marks
ready h told.Granted = same h.marks
ready h (told.Retained by) = same h.marks
ready h told.RecordsFull = same h.marks
ready h (told.Contention share exclusive) = same h.marks
ready h told.Moved = same h.marks
ready h (told.Cells is_open is_emptied) = same h.marks
ready h (told.Status status) = same h.marks
ready h told.Released = same h.marks
ready h told.Undone = same h.marks
ready h told.Stale = same h.marks
ready h told.Forced = same h.marks
ready h told.Up = same h.marks
ready h told.Failed = same h.marks
ready h (told.Damaged volume at) = same h.marks

reads : (h : Held) (answer : Reply) → Same h.marks (read_after h answer).marks
reads h answer = at (ready (read_in h answer) (hand.read_told h.marks.hand answer))
  where
    at : Same (read_in h answer).marks (read_after h answer).marks → Same h.marks (read_after h answer).marks
    at e = record { member = e.member; own = e.own; log = e.log; trans = e.trans }

tests : (h : Held) (answer : Reply) → Same h.marks (tested_after h answer).marks
tests h answer = at (ready (tested_in h answer) (hand.tested_told answer))
  where
    at : Same (tested_in h answer).marks (tested_after h answer).marks → Same h.marks (tested_after h answer).marks
    at e = record { member = e.member; own = e.own; log = e.log; trans = e.trans }

-- ---- retained locks, and the page's lock
listed_name : (s : RestartState) (n : Name) → Same s (entered_name s n)
listed_name s (name.Space t) = record { member = refl; own = refl; log = refl; trans = refl }
listed_name s (name.Row t k) = record { member = refl; own = refl; log = refl; trans = refl }
listed_name s (name.Page p) = record { member = refl; own = refl; log = refl; trans = refl }
listed_name s (name.Set n) = record { member = refl; own = refl; log = refl; trans = refl }

freed_page : (s : RestartState) (o : Option TurnKey) → Same s (page_freed s o)
freed_page s None = same s
freed_page s (Some key) = record { member = refl; own = refl; log = refl; trans = refl }

-- so it is of each reply
record Quiet (s : RestartState) (answer : Reply) : Type 0 where
  listed : Same s (record_after s answer)
  purged : Same s (page_purged_after s answer)
  named : (n : Name) → Same s (name_purged_after s n answer)
  claims : (id : ℕ) → Same s (claim_after s id answer)
  released : Same s (released_after s answer)
  ups : Same s (up_after s answer)

quiet : (s : RestartState) (answer : Reply) → Quiet s answer
quiet s (reply.Granted version) = record { listed = unchanged s (record_after s (reply.Granted version)) refl refl refl refl; purged = same s; named = λ n. same s; claims = λ id. unchanged s (claim_after s id (reply.Granted version)) refl refl refl refl; released = same s; ups = same s }
quiet s (reply.Retained by) = record { listed = unchanged s (record_after s (reply.Retained by)) refl refl refl refl; purged = same s; named = λ n. same s; claims = λ id. unchanged s (claim_after s id (reply.Retained by)) refl refl refl refl; released = same s; ups = same s }
quiet s (reply.RecordsFull limit) = record { listed = unchanged s (record_after s (reply.RecordsFull limit)) refl refl refl refl; purged = same s; named = λ n. same s; claims = λ id. unchanged s (claim_after s id (reply.RecordsFull limit)) refl refl refl refl; released = same s; ups = same s }
quiet s (reply.Contention share exclusive version) = record { listed = unchanged s (record_after s (reply.Contention share exclusive version)) refl refl refl refl; purged = same s; named = λ n. same s; claims = λ id. unchanged s (claim_after s id (reply.Contention share exclusive version)) refl refl refl refl; released = same s; ups = same s }
quiet s (reply.Moved version) = record { listed = unchanged s (record_after s (reply.Moved version)) refl refl refl refl; purged = same s; named = λ n. same s; claims = λ id. unchanged s (claim_after s id (reply.Moved version)) refl refl refl refl; released = same s; ups = same s }
quiet s (reply.RetainedLock other mode) = record { listed = at (listed_name s other); purged = same s; named = λ n. same s; claims = λ id. unchanged s (claim_after s id (reply.RetainedLock other mode)) refl refl refl refl; released = same s; ups = same s }
  where
    at : Same s (entered_name s other) → Same s (record_after s (reply.RetainedLock other mode))
    at e = record { member = e.member; own = e.own; log = e.log; trans = e.trans }
quiet s reply.Done = record { listed = unchanged s (record_after s reply.Done) refl refl refl refl; purged = freed_page s s.hand.key; named = λ n. unchanged s (name_purged_after s n reply.Done) refl refl refl refl; claims = λ id. unchanged s (claim_after s id reply.Done) refl refl refl refl; released = unchanged s (released_after s reply.Done) refl refl refl refl; ups = unchanged s (up_after s reply.Done) refl refl refl refl }
quiet s reply.Nothing = record { listed = unchanged s (record_after s reply.Nothing) refl refl refl refl; purged = same s; named = λ n. same s; claims = λ id. unchanged s (claim_after s id reply.Nothing) refl refl refl refl; released = same s; ups = same s }
quiet s reply.Found = record { listed = unchanged s (record_after s reply.Found) refl refl refl refl; purged = same s; named = λ n. same s; claims = λ id. unchanged s (claim_after s id reply.Found) refl refl refl refl; released = same s; ups = same s }
quiet s reply.NoData = record { listed = unchanged s (record_after s reply.NoData) refl refl refl refl; purged = same s; named = λ n. same s; claims = λ id. unchanged s (claim_after s id reply.NoData) refl refl refl refl; released = same s; ups = same s }
quiet s reply.CacheFull = record { listed = unchanged s (record_after s reply.CacheFull) refl refl refl refl; purged = same s; named = λ n. same s; claims = λ id. unchanged s (claim_after s id reply.CacheFull) refl refl refl refl; released = same s; ups = same s }
quiet s reply.Lost = record { listed = unchanged s (record_after s reply.Lost) refl refl refl refl; purged = same s; named = λ n. same s; claims = λ id. unchanged s (claim_after s id reply.Lost) refl refl refl refl; released = same s; ups = same s }
quiet s reply.Written = record { listed = unchanged s (record_after s reply.Written) refl refl refl refl; purged = same s; named = λ n. same s; claims = λ id. unchanged s (claim_after s id reply.Written) refl refl refl refl; released = same s; ups = same s }
quiet s reply.Valid = record { listed = unchanged s (record_after s reply.Valid) refl refl refl refl; purged = same s; named = λ n. same s; claims = λ id. unchanged s (claim_after s id reply.Valid) refl refl refl refl; released = same s; ups = same s }
quiet s reply.Invalid = record { listed = unchanged s (record_after s reply.Invalid) refl refl refl refl; purged = same s; named = λ n. same s; claims = λ id. unchanged s (claim_after s id reply.Invalid) refl refl refl refl; released = same s; ups = same s }
quiet s reply.Taken = record { listed = unchanged s (record_after s reply.Taken) refl refl refl refl; purged = same s; named = λ n. same s; claims = λ id. unchanged s (claim_after s id reply.Taken) refl refl refl refl; released = same s; ups = same s }
quiet s reply.NotChanged = record { listed = unchanged s (record_after s reply.NotChanged) refl refl refl refl; purged = same s; named = λ n. same s; claims = λ id. unchanged s (claim_after s id reply.NotChanged) refl refl refl refl; released = same s; ups = same s }
quiet s (reply.Locked by) = record { listed = unchanged s (record_after s (reply.Locked by)) refl refl refl refl; purged = same s; named = λ n. same s; claims = λ id. unchanged s (claim_after s id (reply.Locked by)) refl refl refl refl; released = same s; ups = same s }
quiet s reply.NotHeld = record { listed = unchanged s (record_after s reply.NotHeld) refl refl refl refl; purged = same s; named = λ n. same s; claims = λ id. unchanged s (claim_after s id reply.NotHeld) refl refl refl refl; released = same s; ups = same s }
quiet s (reply.ChangedPage other) = record { listed = unchanged s (record_after s (reply.ChangedPage other)) refl refl refl refl; purged = same s; named = λ n. same s; claims = λ id. unchanged s (claim_after s id (reply.ChangedPage other)) refl refl refl refl; released = same s; ups = same s }
quiet s (reply.Query query) = record { listed = unchanged s (record_after s (reply.Query query)) refl refl refl refl; purged = same s; named = λ n. same s; claims = λ id. unchanged s (claim_after s id (reply.Query query)) refl refl refl refl; released = same s; ups = same s }
quiet s reply.Gone = record { listed = unchanged s (record_after s reply.Gone) refl refl refl refl; purged = same s; named = λ n. same s; claims = λ id. unchanged s (claim_after s id reply.Gone) refl refl refl refl; released = same s; ups = same s }
quiet s reply.Cells = record { listed = unchanged s (record_after s reply.Cells) refl refl refl refl; purged = same s; named = λ n. same s; claims = λ id. unchanged s (claim_after s id reply.Cells) refl refl refl refl; released = same s; ups = same s }
quiet s reply.Waits = record { listed = unchanged s (record_after s reply.Waits) refl refl refl refl; purged = same s; named = λ n. same s; claims = λ id. unchanged s (claim_after s id reply.Waits) refl refl refl refl; released = same s; ups = same s }
quiet s reply.Raised = record { listed = unchanged s (record_after s reply.Raised) refl refl refl refl; purged = same s; named = λ n. same s; claims = λ id. unchanged s (claim_after s id reply.Raised) refl refl refl refl; released = same s; ups = same s }
quiet s reply.NotRaised = record { listed = unchanged s (record_after s reply.NotRaised) refl refl refl refl; purged = same s; named = λ n. same s; claims = λ id. unchanged s (claim_after s id reply.NotRaised) refl refl refl refl; released = same s; ups = same s }
quiet s (reply.Status status) = record { listed = unchanged s (record_after s (reply.Status status)) refl refl refl refl; purged = same s; named = λ n. same s; claims = λ id. unchanged s (claim_after s id (reply.Status status)) refl refl refl refl; released = same s; ups = same s }
quiet s reply.NotLost = record { listed = unchanged s (record_after s reply.NotLost) refl refl refl refl; purged = same s; named = λ n. same s; claims = λ id. unchanged s (claim_after s id reply.NotLost) refl refl refl refl; released = same s; ups = same s }
quiet s (reply.ClaimTaken by) = record { listed = unchanged s (record_after s (reply.ClaimTaken by)) refl refl refl refl; purged = same s; named = λ n. same s; claims = λ id. unchanged s (claim_after s id (reply.ClaimTaken by)) refl refl refl refl; released = same s; ups = same s }
quiet s reply.Claimed = record { listed = unchanged s (record_after s reply.Claimed) refl refl refl refl; purged = same s; named = λ n. same s; claims = λ id. unchanged s (claim_after s id reply.Claimed) refl refl refl refl; released = same s; ups = same s }
quiet s (reply.Drawn lrsn) = record { listed = unchanged s (record_after s (reply.Drawn lrsn)) refl refl refl refl; purged = same s; named = λ n. same s; claims = λ id. unchanged s (claim_after s id (reply.Drawn lrsn)) refl refl refl refl; released = same s; ups = same s }
quiet s (reply.Stale index) = record { listed = unchanged s (record_after s (reply.Stale index)) refl refl refl refl; purged = same s; named = λ n. same s; claims = λ id. unchanged s (claim_after s id (reply.Stale index)) refl refl refl refl; released = same s; ups = same s }
quiet s (reply.LrsnEnd at) = record { listed = unchanged s (record_after s (reply.LrsnEnd at)) refl refl refl refl; purged = same s; named = λ n. same s; claims = λ id. unchanged s (claim_after s id (reply.LrsnEnd at)) refl refl refl refl; released = same s; ups = same s }

-- ---- changes that are taken back
abbrev pub IsWritten : Reply → Type 0
IsWritten answer = (lrsn : ℕ) → answer ≡ reply.Drawn lrsn → IsNumber version.Two lrsn

-- so it is where the intent has drawn one
abbrev pub IsWrittenFor : RestartIntent → Reply → Type 0
IsWrittenFor intent.Step answer = Unit {0}
IsWrittenFor intent.ReadLog answer = Unit {0}
IsWrittenFor intent.CutTail answer = Unit {0}
IsWrittenFor intent.RetainedAt answer = Unit {0}
IsWrittenFor intent.Read answer = Unit {0}
IsWrittenFor intent.ReadPage answer = Unit {0}
IsWrittenFor intent.Test answer = Unit {0}
IsWrittenFor intent.WritePage answer = Unit {0}
IsWrittenFor intent.PurgePage answer = Unit {0}
IsWrittenFor (intent.Purge n) answer = Unit {0}
IsWrittenFor intent.Append answer = Unit {0}
IsWrittenFor (intent.Obtain id) answer = Unit {0}
IsWrittenFor (intent.Ask id to) answer = Unit {0}
IsWrittenFor (intent.Answers id asked) answer = Unit {0}
IsWrittenFor (intent.Grant id) answer = Unit {0}
IsWrittenFor (intent.Status m) answer = Unit {0}
IsWrittenFor (intent.Undo id) answer = IsWritten answer
IsWrittenFor intent.ReleasePage answer = Unit {0}
IsWrittenFor intent.Unregister answer = Unit {0}
IsWrittenFor intent.Up answer = Unit {0}

module _ (law : BothTell) where
  undone_held : (h : Held) (id lrsn : ℕ) (it : Newest) (o : Option ℕ) → IsNumber version.Two lrsn → Step h.marks (undo_after_by h id lrsn it o).marks
  undone_held h id lrsn it None drawn = step_undo law h.marks id lrsn drawn
  undone_held h id lrsn it (Some at) drawn = step_itself h.marks

  drawn_by : (h : Held) (id lrsn : ℕ) (o : Option Newest) → IsNumber version.Two lrsn → Step h.marks (drawn_after_by h id lrsn o).marks
  drawn_by h id lrsn None drawn = step_itself h.marks
  drawn_by h id lrsn (Some it) drawn = undone_held h id lrsn it (change_fault (page_of it.change) it.change h.page) drawn

  drawn : (h : Held) (id lrsn : ℕ) → IsNumber version.Two lrsn → Step h.marks (drawn_after h id lrsn).marks
  drawn h id lrsn written = by (may_undo h.marks id lrsn)
    where
      by : (b : Bool) → Step h.marks (if b then drawn_after_by h id lrsn (newest h.marks.trans id) else h).marks
      by true = drawn_by h id lrsn (newest h.marks.trans id) written
      by false = step_itself h.marks

  undoes : (h : Held) (id : ℕ) (answer : Reply) → IsWritten answer → Step h.marks (settle_undo_after h id answer).marks
  undoes h id (reply.Granted version) written = step_itself h.marks
  undoes h id (reply.Retained by) written = step_itself h.marks
  undoes h id (reply.RecordsFull limit) written = step_itself h.marks
  undoes h id (reply.Contention share exclusive version) written = step_itself h.marks
  undoes h id (reply.Moved version) written = step_itself h.marks
  undoes h id (reply.RetainedLock other mode) written = step_itself h.marks
  undoes h id reply.Done written = step_itself h.marks
  undoes h id reply.Nothing written = step_itself h.marks
  undoes h id reply.Found written = step_itself h.marks
  undoes h id reply.NoData written = step_itself h.marks
  undoes h id reply.CacheFull written = step_itself h.marks
  undoes h id reply.Lost written = step_itself h.marks
  undoes h id reply.Written written = step_itself h.marks
  undoes h id reply.Valid written = step_itself h.marks
  undoes h id reply.Invalid written = step_itself h.marks
  undoes h id reply.Taken written = step_itself h.marks
  undoes h id reply.NotChanged written = step_itself h.marks
  undoes h id (reply.Locked by) written = step_itself h.marks
  undoes h id reply.NotHeld written = step_itself h.marks
  undoes h id (reply.ChangedPage other) written = step_itself h.marks
  undoes h id (reply.Query query) written = step_itself h.marks
  undoes h id reply.Gone written = step_itself h.marks
  undoes h id reply.Cells written = step_itself h.marks
  undoes h id reply.Waits written = step_itself h.marks
  undoes h id reply.Raised written = step_itself h.marks
  undoes h id reply.NotRaised written = step_itself h.marks
  undoes h id (reply.Status status) written = step_itself h.marks
  undoes h id reply.NotLost written = step_itself h.marks
  undoes h id (reply.ClaimTaken by) written = step_itself h.marks
  undoes h id reply.Claimed written = step_itself h.marks
  undoes h id (reply.Drawn lrsn) written = drawn h id lrsn (written lrsn refl)
  undoes h id (reply.Stale index) written = step_same h.marks (settle_undo_after h id (reply.Stale index)).marks (record { member = refl; own = refl; log = refl; trans = refl })
  undoes h id (reply.LrsnEnd at) written = step_itself h.marks

  -- ---- by intent
  pub settles : (h : Held) (i : RestartIntent) (answer : Reply) → IsWrittenFor i answer → Step h.marks (settled h i answer).marks
  settles h intent.Step answer written = step_same h.marks (settled h intent.Step answer).marks (same h.marks)
  settles h intent.ReadLog answer written = step_same h.marks (settled h intent.ReadLog answer).marks (same h.marks)
  settles h intent.CutTail answer written = step_same h.marks (settled h intent.CutTail answer).marks (same h.marks)
  settles h intent.RetainedAt answer written = step_same h.marks (settled h intent.RetainedAt answer).marks ((quiet h.marks answer).listed)
  settles h intent.Read answer written = step_same h.marks (settled h intent.Read answer).marks (reads h answer)
  settles h intent.ReadPage answer written = step_same h.marks (settled h intent.ReadPage answer).marks (same h.marks)
  settles h intent.Test answer written = step_same h.marks (settled h intent.Test answer).marks (tests h answer)
  settles h intent.WritePage answer written = step_same h.marks (settled h intent.WritePage answer).marks (unchanged h.marks (settled h intent.WritePage answer).marks refl refl refl refl)
  settles h intent.PurgePage answer written = step_same h.marks (settled h intent.PurgePage answer).marks ((quiet h.marks answer).purged)
  settles h (intent.Purge n) answer written = step_same h.marks (settled h (intent.Purge n) answer).marks ((quiet h.marks answer).named n)
  settles h intent.Append answer written = step_same h.marks (settled h intent.Append answer).marks (same h.marks)
  settles h (intent.Obtain id) answer written = step_same h.marks (settled h (intent.Obtain id) answer).marks ((quiet h.marks answer).claims id)
  settles h (intent.Ask id to) answer written = step_same h.marks (settled h (intent.Ask id to) answer).marks (same h.marks)
  settles h (intent.Answers id asked) answer written = step_same h.marks (settled h (intent.Answers id asked) answer).marks (same h.marks)
  settles h (intent.Grant id) answer written = step_same h.marks (settled h (intent.Grant id) answer).marks ((quiet h.marks answer).claims id)
  settles h (intent.Status m) answer written = step_same h.marks (settled h (intent.Status m) answer).marks (same h.marks)
  settles h (intent.Undo id) answer written = undoes h id answer written
  settles h intent.ReleasePage answer written = step_same h.marks (settled h intent.ReleasePage answer).marks ((quiet h.marks answer).released)
  settles h intent.Unregister answer written = step_same h.marks (settled h intent.Unregister answer).marks (same h.marks)
  settles h intent.Up answer written = step_same h.marks (settled h intent.Up answer).marks ((quiet h.marks answer).ups)

  -- ---- local moves
  retained : (s : RestartState) (o : Option TurnKey) → Same s (retained_from s o)
  retained s None = same s
  retained s (Some key) = record { member = refl; own = refl; log = refl; trans = refl }

  taken_up : (s : RestartState) (o : Option PageId) → Same s (undone_from s o)
  taken_up s None = same s
  taken_up s (Some p) = record { member = refl; own = refl; log = refl; trans = refl }

  one : (x : Local) (s : RestartState) → Step s (moved x s)
  one TakeUpRetained s = step_same s (moved TakeUpRetained s) (either (is_none s.hand.page) s (retained_from s (slice_get s.pages 0)) s (retained s (slice_get s.pages 0)) (same s))
  one (TakeUpUndone id) s = step_same s (moved (TakeUpUndone id) s) (either (is_none s.hand.page && is_recovered s) s (undone_from s (page_undone s.trans id)) s (taken_up s (page_undone s.trans id)) (same s))
  one PutDown s = step_same s (moved PutDown s) (either (may_put_down s.hand s.claim) s (with_hand s no_hand) s (unchanged s (with_hand s no_hand) refl refl refl refl) (same s))
  one (Close id) s = step_close law s id

  all : (xs : List Local) (s : RestartState) → Step s (all_moved xs s)
  all [] s = step_itself s
  all (x ∷ xs) s = step_on s (moved x s) (all_moved xs (moved x s)) (one x s) (all xs (moved x s))

  pub locals : (s t : RestartState) → Reaches s t → Step s t
  unfolding Reaches
  locals s t r = subst (λ z. Step s z) (sym r.1) (all r.0 s)
