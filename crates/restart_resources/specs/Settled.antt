-- What an answer makes of what is held.
use Rattle.std.specs.Prelude.{ℕ, Bool, false, if◌then◌else◌, is_none, List, Option, Some, None, Result, Ok, Err}
use Rattle.ds_base.specs.declared.names.PageId.{PageId}
use Rattle.ds_base.specs.declared.names.Volume.TheVariants as volume
use Rattle.list_structure.specs.declared.query.Cell.{Cell}
use Rattle.facility.specs.declared.command.Reply.{Reply}
use Rattle.facility.specs.declared.command.Reply.TheVariants as reply
use Rattle.heap_space.specs.Written.{after_patch}
use Rattle.log_record.specs.Changes.{inverse}
use Rattle.page_chain.specs.Chains.{row_patch}
use Rattle.page_format.specs.Fields.{lrsn_of}
use Rattle.page_redo.specs.declared.fault.FieldFault.{FieldFault}
use Rattle.page_redo.specs.Rows.{change_fault}
use Rattle.write_order.specs.Ranks.{rank_of}
use Rattle.restart_marks.specs.declared.intent.RestartIntent.{RestartIntent}
use Rattle.restart_marks.specs.declared.intent.RestartIntent.TheVariants as intent
use Rattle.restart_marks.specs.declared.told.RestartTold.{RestartTold}
use Rattle.restart_marks.specs.declared.told.RestartTold.TheVariants as told
use Rattle.restart_marks.specs.Given.{Newest}
use Rattle.restart_marks.specs.Cells.{answers_told}
use Rattle.restart_marks.specs.Hands as hand
use Rattle.restart_marks.specs.Listing as listing
use Rattle.restart_marks.specs.Locks as locks
use Rattle.restart_marks.specs.State.{with_hand}
use Rattle.restart_marks.specs.Given.{newest, page_of}
use Rattle.restart_marks.specs.Undoing as undoing
use Rattle.restart_resources.specs.Forward.{own_forward}
use Rattle.restart_resources.specs.Held.{Held, with_marks, with_page}

abbrev pub damaged : PageId → FieldFault → RestartTold
damaged page fault = told.Damaged (volume.Page page) fault.at

-- ---- the page in hand, whose bit is set in this event

abbrev pub noted : Held → PageId → Bool → Held
noted h page raised = with_marks h (hand.ready_after h.marks raised (lrsn_of h.page) (rank_of page h.page))

abbrev pub brought_told : PageId → Result Bool FieldFault → RestartTold
brought_told page (Ok raised) = told.Ready
brought_told page (Err fault) = damaged page fault

abbrev pub brought_after : Held → PageId → Result Bool FieldFault → Held
brought_after h page (Ok raised) = noted h page raised
brought_after h page (Err fault) = h

-- it is brought forward where it is retained
abbrev pub bring_told : Held → PageId → RestartTold
bring_told h page = if is_none h.marks.hand.key then told.Ready else brought_told page (own_forward page h.page h.marks).outcome

abbrev pub bring_after : Held → PageId → Held
bring_after h page =
    if is_none h.marks.hand.key then noted h page false
    else brought_after (with_page h (own_forward page h.page h.marks).page) page (own_forward page h.page h.marks).outcome

abbrev pub ready_told_at : Held → Option PageId → RestartTold
ready_told_at h None = told.Ready
ready_told_at h (Some page) = bring_told h page

abbrev pub ready_told : Held → RestartTold → RestartTold
ready_told h told.Ready = ready_told_at h h.marks.hand.page
ready_told h other = other

abbrev pub ready_after_at : Held → Option PageId → Held
ready_after_at h None = h
ready_after_at h (Some page) = bring_after h page

abbrev pub ready_after : Held → RestartTold → Held
ready_after h told.Ready = ready_after_at h h.marks.hand.page
ready_after h _ = h

abbrev pub read_in : Held → Reply → Held
read_in h answer = with_marks h (with_hand h.marks (hand.read_after h.marks.hand answer))

abbrev pub read_told : Held → Reply → RestartTold
read_told h answer = ready_told (read_in h answer) (hand.read_told h.marks.hand answer)

abbrev pub read_after : Held → Reply → Held
read_after h answer = ready_after (read_in h answer) (hand.read_told h.marks.hand answer)

abbrev pub tested_in : Held → Reply → Held
tested_in h answer = with_marks h (with_hand h.marks (hand.tested_after h.marks.hand answer))

abbrev pub tested_told : Held → Reply → RestartTold
tested_told h answer = ready_told (tested_in h answer) (hand.tested_told answer)

abbrev pub tested_after : Held → Reply → Held
tested_after h answer = ready_after (tested_in h answer) (hand.tested_told answer)

-- ---- a change is taken back

abbrev pub undo_told_by : Held → ℕ → ℕ → Newest → Option ℕ → RestartTold
undo_told_by h id lrsn it None = undoing.undone_told h.marks id lrsn
undo_told_by h id lrsn it (Some at) = damaged (page_of it.change) (record { at = at })

-- the row in the way is told, and then the page stays as it is
abbrev pub undo_told : Held → ℕ → ℕ → Newest → RestartTold
undo_told h id lrsn it = undo_told_by h id lrsn it (change_fault (page_of it.change) it.change h.page)

abbrev pub undo_after_by : Held → ℕ → ℕ → Newest → Option ℕ → Held
undo_after_by h id lrsn it None =
    record h { marks = undoing.undone_after h.marks id lrsn; page = after_patch lrsn h.page (row_patch (inverse it.change)) }
undo_after_by h id lrsn it (Some at) = h

abbrev pub undo_after : Held → ℕ → ℕ → Newest → Held
undo_after h id lrsn it = undo_after_by h id lrsn it (change_fault (page_of it.change) it.change h.page)

abbrev pub drawn_told_by : Held → ℕ → ℕ → Option Newest → RestartTold
drawn_told_by h id lrsn None = told.Stepped
drawn_told_by h id lrsn (Some it) = undo_told h id lrsn it

abbrev pub drawn_told : Held → ℕ → ℕ → RestartTold
drawn_told h id lrsn = if undoing.may_undo h.marks id lrsn then drawn_told_by h id lrsn (newest h.marks.trans id) else told.Stepped

abbrev pub drawn_after_by : Held → ℕ → ℕ → Option Newest → Held
drawn_after_by h id lrsn None = h
drawn_after_by h id lrsn (Some it) = undo_after h id lrsn it

abbrev pub drawn_after : Held → ℕ → ℕ → Held
drawn_after h id lrsn = if undoing.may_undo h.marks id lrsn then drawn_after_by h id lrsn (newest h.marks.trans id) else h

abbrev pub settle_undo_told : Held → ℕ → Reply → RestartTold
settle_undo_told h id (reply.Drawn lrsn) = drawn_told h id lrsn
settle_undo_told h id (reply.Stale index) = told.Stale
settle_undo_told h id _ = told.Stepped

abbrev pub settle_undo_after : Held → ℕ → Reply → Held
settle_undo_after h id (reply.Drawn lrsn) = drawn_after h id lrsn
settle_undo_after h id (reply.Stale index) = with_marks h (undoing.stale_after h.marks)
settle_undo_after h id _ = h

-- ---- replies of the facility

-- where these are the cells that the command asks for
abbrev pub told_by : Held → RestartIntent → Reply → List Cell → RestartTold
told_by h intent.RetainedAt answer cells = listing.record_told answer
told_by h intent.Read answer cells = read_told h answer
told_by h intent.Test answer cells = tested_told h answer
told_by h intent.WritePage answer cells = hand.written_told answer
told_by h intent.PurgePage answer cells = listing.purged_told answer
told_by h (intent.Purge n) answer cells = listing.purged_told answer
told_by h (intent.Obtain id) answer cells = locks.claim_told answer
told_by h (intent.Grant id) answer cells = locks.claim_told answer
told_by h (intent.Answers id asked) answer cells = answers_told asked cells
told_by h (intent.Status m) answer cells = locks.status_told answer
told_by h (intent.Undo id) answer cells = settle_undo_told h id answer
told_by h intent.ReleasePage answer cells = locks.released_told answer
told_by h intent.Up answer cells = locks.up_told answer
told_by h _ answer cells = told.Stepped

abbrev pub settled : Held → RestartIntent → Reply → Held
settled h intent.RetainedAt answer = with_marks h (listing.record_after h.marks answer)
settled h intent.Read answer = read_after h answer
settled h intent.Test answer = tested_after h answer
settled h intent.WritePage answer = with_marks h (with_hand h.marks (hand.written_after h.marks.hand answer))
settled h intent.PurgePage answer = with_marks h (listing.page_purged_after h.marks answer)
settled h (intent.Purge n) answer = with_marks h (listing.name_purged_after h.marks n answer)
settled h (intent.Obtain id) answer = with_marks h (locks.claim_after h.marks id answer)
settled h (intent.Grant id) answer = with_marks h (locks.claim_after h.marks id answer)
settled h (intent.Undo id) answer = settle_undo_after h id answer
settled h intent.ReleasePage answer = with_marks h (locks.released_after h.marks answer)
settled h intent.Up answer = with_marks h (locks.up_after h.marks answer)
settled h _ answer = h
