-- What a lawful change comes to over the pages in the frames.
use Rattle.std.specs.Prelude.{ℕ, ◌≡◌, nat_le, if◌then◌else◌, List, slice_get, Option, Some, None, Result, Ok, Err}
use Rattle.ds_base.specs.declared.names.PageId.{PageId}
use Rattle.ds_base.specs.declared.names.Place.{Place}
use Rattle.ds_model.specs.declared.log.RowChange.{RowChange}
use Rattle.ds_model.specs.declared.log.Body.TheVariants as body
use Rattle.ds_model.specs.RecordBytes.{length_of, PatchesAreAllowed, ChangeFits}
use Rattle.page_format.specs.declared.patch.Patch.{Patch}
use Rattle.ds_base.specs.Pages.{heap_page}
use Rattle.member_intents.specs.Given.{Action}
use Rattle.member_intents.specs.Given.action_variants as action
use Rattle.member_intents.specs.Given.{RowPlan}
use Rattle.member_intents.specs.Given.row_plan_variants as row
use Rattle.member_intents.specs.Given.{plan_of}
use Rattle.member_intents.specs.Given.{row_plan, undo_plan}
-- given out again: the frames of a change, and what an event comes to
pub use Rattle.member_intents.specs.declared.intent.Frames.{Frames}
pub use Rattle.member_intents.specs.declared.outcome.Outcome.{Outcome}
pub use Rattle.member_intents.specs.declared.outcome.Outcome.TheVariants as outcome
use Rattle.member_intents.specs.declared.intent.Intent.{Intent}
use Rattle.member_intents.specs.declared.intent.Intent.TheVariants as intent
use Rattle.member_intents.specs.declared.test.Test.{Test}
use Rattle.member_intents.specs.declared.test.Test.TheVariants.{Moot, NoRoom, OtherPage}
use Rattle.member_intents.specs.declared.test.StepFault.{StepFault}
use Rattle.member_intents.specs.declared.test.StepFault.TheVariants.{Unlawful, NotExecutable, NoMemory}
use Rattle.member_marks.specs.Given.{room_of}
use Rattle.member_trans.specs.declared.fate.Change.{Change}
use Rattle.member_trans.specs.Trans.{newest_of}
use Rattle.member_marks.specs.State.{MarksState, tran_of}
use Rattle.member_needs.specs.declared.plans.Plan.{Plan}
use Rattle.member_needs.specs.declared.plans.Plan.TheVariants as plan
use Rattle.member_needs.specs.Records.{page_of, change_page, row_change_bytes}

-- as this says, unless memory was wanting
abbrev pub IsUnlessMemory : {T : Type 0} → Result T StepFault → Result T Test → Type 0
IsUnlessMemory (Ok x) wanted = wanted ≡ Ok x
IsUnlessMemory (Err (Unlawful test)) wanted = wanted ≡ Err test
IsUnlessMemory (Err NotExecutable) wanted = ⊥
IsUnlessMemory (Err NoMemory) wanted = Unit {0}

-- ---- patches

abbrev pub system_with : MarksState → Option (List Patch) → Result Plan Test
system_with s None = Err Moot
system_with s (Some patches) = if nat_le (length_of (body.System patches)) (room_of s.log) then Ok (plan.System patches) else Err NoRoom

abbrev pub system_plan : MarksState → List (List ℕ) → ℕ → Action → Frames → Result Plan Test
system_plan s pages limit a frames = system_with s (plan_of a limit (page_of pages frames 0) (page_of pages frames 1) (page_of pages frames 2))

-- ---- rows

abbrev pub row_or_fault : PageId → RowPlan → Plan
row_or_fault page (row.Change c) = plan.Row c
row_or_fault page (row.Fault at) = plan.Fault page at

abbrev pub row_with : MarksState → ℕ → ℕ → Place → Option (List ℕ) → Option (List ℕ) → Result Plan Test
row_with s table key place after None = Err OtherPage
row_with s table key place after (Some page) =
    if nat_le row_change_bytes (room_of s.log) then Ok (row_or_fault (heap_page table place.page) (row_plan table key place after page)) else Err NoRoom

abbrev pub change_plan : MarksState → List (List ℕ) → ℕ → Action → Frames → Result Plan Test
change_plan s pages limit (action.RowChange table key place after) frames = row_with s table key place after (page_of pages frames 0)
change_plan s pages limit (action.FormatIndex table) frames = system_plan s pages limit (action.FormatIndex table) frames
change_plan s pages limit (action.FormatHeap table) frames = system_plan s pages limit (action.FormatHeap table) frames
change_plan s pages limit (action.GiveSlot table key leaf) frames = system_plan s pages limit (action.GiveSlot table key leaf) frames
change_plan s pages limit (action.Split table left) frames = system_plan s pages limit (action.Split table left) frames
change_plan s pages limit (action.BranchEntry table branch low child) frames = system_plan s pages limit (action.BranchEntry table branch low child) frames

abbrev pub back_or_fault : PageId → RowPlan → Plan
back_or_fault page (row.Change c) = plan.Back c
back_or_fault page (row.Fault at) = plan.Fault page at

abbrev pub back_over : RowChange → Option (List ℕ) → Plan
back_over c None = plan.None
back_over c (Some page) = back_or_fault (change_page c) (undo_plan c page)

abbrev pub back_plan : Option (List ℕ) → Option Change → Plan
back_plan page None = plan.None
back_plan page (Some it) = back_over it.change page

-- ---- all intents

abbrev pub intent_plan : MarksState → List (List ℕ) → ℕ → Intent → Result Plan Test
intent_plan s pages limit (intent.Change slot a frames) = change_plan s pages limit a frames
intent_plan s pages limit (intent.Undo o frame) = Ok (back_plan (slice_get pages frame) (newest_of (tran_of s o)))
intent_plan s pages limit _ = Ok plan.None

-- ---- what the log may have

abbrev pub PlanIsAllowed : Plan → Type 0
PlanIsAllowed plan.None = Unit {0}
PlanIsAllowed (plan.System patches) = PatchesAreAllowed patches
PlanIsAllowed (plan.Row c) = ChangeFits c
PlanIsAllowed (plan.Back c) = ChangeFits c
PlanIsAllowed (plan.Fault page at) = Unit {0}
