-- What follows from the tests of an event and its plan: that a record of the system and a Commit have room.
use Rattle.std.proofs.Common.{◌≡◌, ◌≢◌, ℕ, refl, sym, ap, subst, Bool, true, false, List, Option, Some, None, Result, Ok, Err}
use Rattle.std.specs.Prelude.{◌==◌, ◌&&◌, not, nat_le, if◌then◌else◌}
use Rattle.std.proofs.lemmas.Bool.{and_from, ne_eqb}
use Rattle.ds_base.specs.declared.names.PageId.{PageId}
use Rattle.ds_base.specs.declared.names.Place.{Place}
use Rattle.ds_base.specs.Pages.{heap_page}
use Rattle.ds_model.specs.declared.log.Body.TheVariants as body
use Rattle.ds_model.specs.RecordBytes.{length_of}
use Rattle.log_record.proofs.Records.{whole_length}
use Rattle.page_format.specs.declared.patch.Patch.{Patch}
use Rattle.page_plans.specs.declared.action.Action.{Action}
use Rattle.page_plans.specs.declared.action.Action.TheVariants as action
use Rattle.page_plans.specs.declared.action.RowPlan.{RowPlan}
use Rattle.page_plans.specs.declared.action.RowPlan.TheVariants as row
use Rattle.page_plans.specs.Plans.{plan_of}
use Rattle.page_plans.specs.Rows.{row_plan}
use Rattle.member_intents.specs.declared.intent.Frames.{Frames}
use Rattle.member_intents.specs.declared.outcome.Sent.{Sent}
use Rattle.member_intents.specs.declared.test.Test.{Test}
use Rattle.member_intents.specs.declared.test.Test.TheVariants.{NoRoom}
use Rattle.member_log.specs.Buffers.{room_of}
use Rattle.member_trans.specs.Trans.{is_forward}
use Rattle.member_marks.specs.State.{MarksState, slot_tran}
use Rattle.member_marks.specs.Records.{commit_record, fits_in, may_commit}
use Rattle.member_needs.specs.declared.plans.Plan.{Plan}
use Rattle.member_needs.specs.declared.plans.Plan.TheVariants as plan
use Rattle.member_needs.specs.Plans.{change_plan, row_or_fault, row_with, system_with}
use Rattle.member_needs.specs.Records.{page_of, row_change_bytes}
use Rattle.member_effects.specs.Changes.{system_record}
use Rattle.needs_law.specs.Lawful.{Commits}
use Rattle.page_intents.specs.Draws.{IsPut}
use Rattle.page_events.specs.Events.{IsChange}

-- ---- a commit
pub commit_put : (s : MarksState) (slot number : ℕ) (out : Sent) → Commits s slot out → number ≢ 0 → may_commit s slot number ≡ true
commit_put s slot number out lawful some =
    let r = commit_record (slot_tran s slot) number in
    let fits : fits_in s.log r ≡ true = subst (λ n. nat_le n (room_of s.log) ≡ true) (sym (whole_length r)) lawful.room in
    and_from (not (number == 0)) (is_forward (slot_tran s slot).stage && fits_in s.log r) (ap not (ne_eqb number 0 some)) (and_from (is_forward (slot_tran s slot).stage) (fits_in s.log r) lawful.may.forward fits)

-- ---- a change: what its plan says of the room
abbrev Planned : MarksState → Plan → Type 0
Planned s plan.None = ⊥
Planned s (plan.System patches) = nat_le (length_of (body.System patches)) (room_of s.log) ≡ true
Planned s (plan.Row c) = Unit {0}
Planned s (plan.Back c) = ⊥
Planned s (plan.Fault page at) = Unit {0}

abbrev plan_in : Result Plan Test → Plan
plan_in (Ok p) = p
plan_in (Err test) = plan.None

by_room : (s : MarksState) (patches : List Patch) (p : Plan) (b : Bool) → nat_le (length_of (body.System patches)) (room_of s.log) ≡ b → (if b then Ok (plan.System patches) else Err NoRoom) ≡ Ok p → Planned s p
by_room s patches p true room e = subst (λ z. Planned s z) (ap plan_in e) room
by_room s patches p false room e = absurd (cc e)

by_system : (s : MarksState) (x : Option (List Patch)) (p : Plan) → system_with s x ≡ Ok p → Planned s p
by_system s None p e = absurd (cc e)
by_system s (Some patches) p e = by_room s patches p (nat_le (length_of (body.System patches)) (room_of s.log)) refl e

row_is : (s : MarksState) (page : PageId) (x : RowPlan) → Planned s (row_or_fault page x)
row_is s page (row.Change c) = tt
row_is s page (row.Fault at) = tt

by_row : (s : MarksState) (page : PageId) (x : RowPlan) (p : Plan) (b : Bool) → (if b then Ok (row_or_fault page x) else Err NoRoom) ≡ Ok p → Planned s p
by_row s page x p true e = subst (λ z. Planned s z) (ap plan_in e) (row_is s page x)
by_row s page x p false e = absurd (cc e)

by_page : (s : MarksState) (table key : ℕ) (place : Place) (after : Option (List ℕ)) (x : Option (List ℕ)) (p : Plan) → row_with s table key place after x ≡ Ok p → Planned s p
by_page s table key place after None p e = absurd (cc e)
by_page s table key place after (Some page) p e = by_row s (heap_page table place.page) (row_plan table key place after page) p (nat_le row_change_bytes (room_of s.log)) e

planned_as : (s : MarksState) (pages : List (List ℕ)) (limit : ℕ) (a : Action) (frames : Frames) (p : Plan) → change_plan s pages limit a frames ≡ Ok p → Planned s p
planned_as s pages limit (action.RowChange table key place after) frames p e = by_page s table key place after (page_of pages frames 0) p e
planned_as s pages limit (action.FormatIndex table) frames p e = by_system s (plan_of (action.FormatIndex table) limit (page_of pages frames 0) (page_of pages frames 1) (page_of pages frames 2)) p e
planned_as s pages limit (action.FormatHeap table) frames p e = by_system s (plan_of (action.FormatHeap table) limit (page_of pages frames 0) (page_of pages frames 1) (page_of pages frames 2)) p e
planned_as s pages limit (action.GiveSlot table key leaf) frames p e = by_system s (plan_of (action.GiveSlot table key leaf) limit (page_of pages frames 0) (page_of pages frames 1) (page_of pages frames 2)) p e
planned_as s pages limit (action.Split table left) frames p e = by_system s (plan_of (action.Split table left) limit (page_of pages frames 0) (page_of pages frames 1) (page_of pages frames 2)) p e
planned_as s pages limit (action.BranchEntry table branch low child) frames p e = by_system s (plan_of (action.BranchEntry table branch low child) limit (page_of pages frames 0) (page_of pages frames 1) (page_of pages frames 2)) p e

-- its record is put, of a member with the same log
put_as : (s t : MarksState) (slot number : ℕ) (p : Plan) → t.log ≡ s.log → Planned s p → IsChange t slot p number → IsPut t slot p number
put_as s t slot number plan.None same planned change = planned
put_as s t slot number (plan.System patches) same planned change =
    subst (λ n. nat_le n (room_of t.log) ≡ true) (sym (whole_length (system_record patches number))) (subst (λ l. nat_le (length_of (body.System patches)) (room_of l) ≡ true) (sym same) planned)
put_as s t slot number (plan.Row c) same planned change = change
put_as s t slot number (plan.Back c) same planned change = planned
put_as s t slot number (plan.Fault page at) same planned change = change

pub change_put : (s t : MarksState) (pages : List (List ℕ)) (limit slot number : ℕ) (a : Action) (frames : Frames) (p : Plan) → t.log ≡ s.log → change_plan s pages limit a frames ≡ Ok p → IsChange t slot p number → IsPut t slot p number
change_put s t pages limit slot number a frames p same e change = put_as s t slot number p same (planned_as s pages limit a frames p e) change
