-- Changes, and the log records of them.
use Rattle.std.specs.Prelude.{ℕ, ◌==◌, nat_le, nat_lt, Bool, true, false, not, if◌then◌else◌, List, [], ◌∷◌, length, slice_get, Option, Some, None, Result, Err}
use Rattle.ds_base.specs.declared.names.PageId.{PageId}
use Rattle.ds_base.specs.declared.names.Place.{Place}
use Rattle.ds_model.specs.declared.lock.Name.TheVariants as name
use Rattle.ds_model.specs.declared.log.RowChange.{RowChange}
use Rattle.lock_names.specs.declared.mode.Mode.{Mode}
use Rattle.lock_names.specs.declared.mode.Mode.TheVariants.{IS, IX, S, U, SIX, X}
use Rattle.ds_base.specs.Pages.{same_page, heap_page}
use Rattle.member_intents.specs.Given.{limit}
use Rattle.member_intents.specs.Given.{Indexes}
use Rattle.member_intents.specs.Given.command_variants as command
use Rattle.member_intents.specs.Given.{Action}
use Rattle.member_intents.specs.Given.action_variants as action
use Rattle.member_intents.specs.Given.{action_page}
use Rattle.member_intents.specs.Given.{look_of, place_in}
use Rattle.member_intents.specs.declared.intent.Frames.{Frames}
use Rattle.member_intents.specs.declared.outcome.Sent.{Sent}
use Rattle.member_intents.specs.declared.outcome.Sent.TheVariants as sent
use Rattle.member_intents.specs.declared.test.Test.{Test}
use Rattle.member_intents.specs.declared.test.Test.TheVariants.{NotForward, NotUndoing, NoneStands, AboveLimit, NoRow, NoSpace, NotPlaced, OtherPage, NotClaimed, NotFilled, NoRoom, NonePending}
use Rattle.member_marks.specs.Given.{room_of, is_above}
use Rattle.member_marks.specs.Given.{Frame}
use Rattle.member_trans.specs.declared.fate.Change.{Change}
use Rattle.member_trans.specs.declared.fate.Owner.{Owner}
use Rattle.member_trans.specs.declared.fate.Owner.TheVariants as owner
use Rattle.member_trans.specs.Trans.{is_forward, is_undoing, newest_of}
use Rattle.member_marks.specs.State.{MarksState, tran_of, slot_tran}
use Rattle.member_marks.specs.Claims.{mode_held, has_page}
use Rattle.member_marks.specs.Frames.{frame_in}
use Rattle.member_needs.specs.Tested.{Tested, passed, when, after, sends}

-- ---- the owner may change the row

abbrev pub allows_row : Option Mode → Bool
allows_row None = false
allows_row (Some IS) = false
allows_row (Some IX) = false
allows_row (Some S) = false
allows_row (Some U) = false
allows_row (Some SIX) = false
allows_row (Some X) = true

abbrev pub allows_space : Option Mode → Bool
allows_space None = false
allows_space (Some IS) = false
allows_space (Some IX) = true
allows_space (Some S) = false
allows_space (Some U) = false
allows_space (Some SIX) = true
allows_space (Some X) = true

abbrev pub row_test : MarksState → Owner → ℕ → ℕ → Tested
row_test s o table key =
    when (allows_row (mode_held s o (name.Row table key))) NoRow
    (when (allows_space (mode_held s o (name.Space table))) NoSpace passed)

-- the row of the action, if it is of one
abbrev pub action_test : MarksState → ℕ → Action → Tested
action_test s slot (action.RowChange table key place value) = row_test s (owner.Slot slot) table key
action_test s slot (action.GiveSlot table key leaf) = row_test s (owner.Slot slot) table key
action_test s slot (action.FormatIndex table) = passed
action_test s slot (action.FormatHeap table) = passed
action_test s slot (action.Split table left) = passed
action_test s slot (action.BranchEntry table branch low child) = passed

-- ---- the frames have the pages of the action

-- the frame of this place among them
abbrev pub frame_of : Frames → ℕ → Option ℕ
frame_of frames nth = if nat_lt nth frames.count then slice_get frames.at nth else None

abbrev pub page_in : List (List ℕ) → Option ℕ → Option (List ℕ)
page_in pages None = None
page_in pages (Some at) = slice_get pages at

-- the page in the frame of this place
abbrev pub page_of : List (List ℕ) → Frames → ℕ → Option (List ℕ)
page_of pages frames nth = page_in pages (frame_of frames nth)

abbrev pub place_from : Action → ℕ → Option (List ℕ) → Option Place
place_from a most None = None
place_from a most (Some first) = place_in (look_of a most 0 None first)

-- what the first page of the action leads to
abbrev pub place_by : List (List ℕ) → ℕ → Action → Frames → Option Place
place_by pages most a frames = place_from a most (page_of pages frames 0)

abbrev pub holds_test : MarksState → Frame → PageId → Option PageId → Tested
holds_test s f page None = Err NotPlaced
holds_test s f page (Some own) =
    when (same_page own page) OtherPage (when (has_page s page) NotClaimed (when f.filled NotFilled passed))

-- the frame has the page, which is claimed and filled
abbrev pub frame_test : MarksState → ℕ → PageId → Tested
frame_test s at page = holds_test s (frame_in s.heads at) page (frame_in s.heads at).page

abbrev pub nth_test : MarksState → Option ℕ → Option PageId → Tested
nth_test s None None = passed
nth_test s None (Some page) = Err OtherPage
nth_test s (Some at) None = Err OtherPage
nth_test s (Some at) (Some page) = frame_test s at page

abbrev pub frames_test : MarksState → Action → Frames → Option Place → Tested
frames_test s a frames place =
    when (not (frames.count == 0)) OtherPage
    (after (nth_test s (frame_of frames 0) (action_page a 0 place))
    (after (nth_test s (frame_of frames 1) (action_page a 1 place))
    (nth_test s (frame_of frames 2) (action_page a 2 place))))

-- ---- the needs

-- a number above the limit isn't stable yet
abbrev pub must_append : MarksState → Bool
must_append s = is_above s.log limit

abbrev pub forward_test : MarksState → ℕ → Tested
forward_test s slot =
    when (is_forward (slot_tran s slot).stage) NotForward (when (not (must_append s)) AboveLimit passed)

abbrev pub indexes_of : Frames → Indexes
indexes_of frames = record { count = frames.count; at = frames.at }

-- all but whether the change is still needed, and its record has room
abbrev pub change_need : MarksState → List (List ℕ) → ℕ → ℕ → Action → Frames → Result Sent Test
change_need s pages most slot a frames =
    after (forward_test s slot)
    (after (action_test s slot a)
    (sends (frames_test s a frames (place_by pages most a frames)) (sent.Command (command.Draw (indexes_of frames)))))

abbrev pub room_test : MarksState → ℕ → Tested
room_test s bytes = when (nat_le bytes (room_of s.log)) NoRoom passed

-- the most bytes of the record of a row change
abbrev pub row_change_bytes : ℕ
row_change_bytes = 249

-- the most bytes of a compensation, and of the Ended record behind it
abbrev pub undo_bytes : ℕ
undo_bytes = 289

abbrev pub short_bytes : ℕ
short_bytes = 30

abbrev pub change_page : RowChange → PageId
change_page c = heap_page c.table c.place.page

abbrev pub undoes : MarksState → Owner → ℕ → Option Change → Result Sent Test
undoes s o at None = Err NoneStands
undoes s o at (Some it) =
    after (frame_test s at (change_page it.change))
    (after (row_test s o it.change.table it.change.key)
    (sends (when (not (must_append s)) AboveLimit (room_test s undo_bytes)) (sent.Command (command.DrawUndo (record { count = 1; at = at ∷ 0 ∷ 0 ∷ [] })))))

abbrev pub undo_need : MarksState → Owner → ℕ → Result Sent Test
undo_need s o at = after (when (is_undoing (tran_of s o).stage) NotUndoing passed) (undoes s o at (newest_of (tran_of s o)))

abbrev pub commit_need : MarksState → ℕ → Result Sent Test
commit_need s slot = sends (after (forward_test s slot) (room_test s short_bytes)) (sent.Command (command.Draw (record { count = 0; at = 0 ∷ 0 ∷ 0 ∷ [] })))

abbrev pub append_need : MarksState → Result Sent Test
append_need s = sends (when (not (length s.log.pending == 0)) NonePending passed) sent.AppendLog
