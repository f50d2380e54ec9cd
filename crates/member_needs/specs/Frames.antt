-- Frames: how they are filled, tested, written and made free.
use Rattle.std.specs.Prelude.{ℕ, ◌==◌, nat_le, nat_lt, Bool, false, not, ◌&&◌, List, length, slice_get, Option, Some, None, Result, Ok, Err}
use Rattle.ds_base.specs.declared.names.PageId.{PageId}
use Rattle.page_format.specs.Fields.{lrsn_of}
use Rattle.ds_base.specs.Pages.{same_page, heap_page}
use Rattle.member_intents.specs.Given.command_variants as command
use Rattle.member_intents.specs.declared.outcome.Sent.{Sent}
use Rattle.member_intents.specs.declared.outcome.Sent.TheVariants as sent
use Rattle.member_intents.specs.declared.test.Test.{Test}
use Rattle.member_intents.specs.declared.test.Test.TheVariants.{NotForward, NotPlaced, NotRegistered, NotFilled, StillFilled, NotChanged, StillChanged, StillPinned, StillClaimed, NotClaimed, NotFirst, NotStable, OtherPage}
use Rattle.member_marks.specs.Given.{Frame}
use Rattle.member_marks.specs.Given.{is_first_to_write}
use Rattle.member_trans.specs.Trans.{is_forward}
use Rattle.member_marks.specs.State.{MarksState, slot_tran}
use Rattle.member_marks.specs.Claims.{has_page}
use Rattle.member_marks.specs.Frames.{frame_in}
use Rattle.member_needs.specs.Tested.{Tested, passed, when, sends}

abbrev pub placed : Option PageId → Result PageId Test
placed None = Err NotPlaced
placed (Some page) = Ok page

-- ---- what stands in the log

-- whether the number of the page's last change isn't above this one
abbrev pub stable_in : ℕ → Option (List ℕ) → Bool
stable_in n None = false
stable_in n (Some page) = nat_le (lrsn_of page) n

-- whether the last change of the page in the frame stands in the log
abbrev pub is_stable : MarksState → List (List ℕ) → ℕ → Bool
is_stable s pages at = stable_in s.log.stable (slice_get pages at)

-- ---- reading

abbrev pub reads : ℕ → Option PageId → Result Sent Test
reads at None = Err NotPlaced
reads at (Some page) = Ok (sent.Command (command.Read page at))

abbrev pub read_need : MarksState → ℕ → Result Sent Test
read_need s at = reads at (frame_in s.heads at).page

abbrev pub reads_page : Frame → Option PageId → Result Sent Test
reads_page f None = Err NotPlaced
reads_page f (Some page) = sends (when f.registered NotRegistered (when (not f.filled) StillFilled passed)) (sent.ReadPage page)

abbrev pub read_page_need : MarksState → ℕ → Result Sent Test
read_page_need s at = reads_page (frame_in s.heads at) (frame_in s.heads at).page

-- ---- testing

-- the page is the header of the table's heap, which the member claims for a transaction that goes forward
abbrev pub header_test : MarksState → PageId → ℕ → ℕ → Tested
header_test s page slot table =
    when (is_forward (slot_tran s slot).stage) NotForward
    (when (same_page page (heap_page table 0)) OtherPage
    (when (has_page s page) NotClaimed passed))

abbrev pub gives_test : MarksState → PageId → ℕ → Option ℕ → Tested
gives_test s page slot None = passed
gives_test s page slot (Some table) = header_test s page slot table

abbrev pub tests : MarksState → ℕ → ℕ → Option ℕ → Option PageId → Result Sent Test
tests s at slot gives None = Err NotPlaced
tests s at slot gives (Some page) =
    sends (when (frame_in s.heads at).filled NotFilled (gives_test s page slot gives)) (sent.Command (command.Test at))

abbrev pub test_need : MarksState → ℕ → ℕ → Option ℕ → Result Sent Test
test_need s at slot gives = tests s at slot gives (frame_in s.heads at).page

-- ---- writing

-- whether the frame is changed, and no other of its table is written before it
abbrev pub is_first : MarksState → ℕ → Bool
is_first s at = nat_lt at (length s.heads.frames) && is_first_to_write s.heads at

abbrev pub writes : MarksState → List (List ℕ) → ℕ → Option PageId → Result Sent Test
writes s pages at None = Err NotPlaced
writes s pages at (Some page) =
    sends (when (frame_in s.heads at).changed NotChanged (when (is_stable s pages at) NotStable (when (is_first s at) NotFirst passed)))
    (sent.Command (command.Write page at))

abbrev pub write_need : MarksState → List (List ℕ) → ℕ → Result Sent Test
write_need s pages at = writes s pages at (frame_in s.heads at).page

-- ---- making free

abbrev pub unregisters : MarksState → ℕ → Option PageId → Result Sent Test
unregisters s at None = Err NotPlaced
unregisters s at (Some page) =
    sends (when (not (frame_in s.heads at).changed) StillChanged (when ((frame_in s.heads at).pins == 0) StillPinned (when (not (has_page s page)) StillClaimed passed)))
    (sent.Command (command.Unregister at))

abbrev pub unregister_need : MarksState → ℕ → Result Sent Test
unregister_need s at = unregisters s at (frame_in s.heads at).page
