-- What a change of a row comes to over the page of its slot.
use Rattle.std.specs.Prelude.{ℕ, nat_lt, if◌then◌else◌, List, Option, None, Some}
use Rattle.ds_base.specs.declared.names.Place.{Place}
use Rattle.ds_model.specs.declared.log.RowChange.{RowChange}
use Rattle.ds_model.specs.RecordBytes.{ChangeFits}
use Rattle.page_format.specs.Header.{slots_per_page}
use Rattle.ds_base.specs.Pages.{heap_page}
use Rattle.heap_space.specs.Slots.{Content, content, slot_in}
use Rattle.heap_space.specs.Written.{after_patch}
use Rattle.page_redo.specs.Rows.{inverse, row_patch, row_fault, change_fault}
use Rattle.page_plans.specs.declared.action.RowPlan.{RowPlan}
use Rattle.page_plans.specs.declared.action.RowPlan.TheVariants as plan

-- the row that a slot has
abbrev pub row_in : Content → Option (List ℕ)
row_in None = None
row_in (Some c) = c.1

-- the row that lies in the slot of this number
abbrev pub row_of : ℕ → List ℕ → Option (List ℕ)
row_of slot page = row_in (content (slot_in page slot))

abbrev pub unless_fault : Option ℕ → RowChange → RowPlan
unless_fault None c = plan.Change c
unless_fault (Some at) c = plan.Fault at

-- the change has the row that lies there before it
abbrev pub row_plan : ℕ → ℕ → Place → Option (List ℕ) → List ℕ → RowPlan
row_plan table key place after page =
    unless_fault (row_fault (heap_page table place.page) place.slot key page)
    (record { table = table; key = key; place = place; before = row_of place.slot page; after = after })

-- the inverse of the change
abbrev pub undo_plan : RowChange → List ℕ → RowPlan
undo_plan c page = unless_fault (change_fault (heap_page c.table c.place.page) c page) (inverse c)

-- the page with the row after the change in its slot
abbrev pub after_row : ℕ → RowChange → List ℕ → List ℕ
after_row lrsn c page = if nat_lt c.place.slot slots_per_page then after_patch lrsn page (row_patch c) else page

-- a log may have the change
abbrev pub Fits : RowPlan → Type 0
Fits (plan.Change c) = ChangeFits c
Fits (plan.Fault at) = Unit {0}
