use Rattle.std.proofs.Common.{ap, ◌∙◌}
use Rattle.ds_base.specs.declared.names.PageId.{PageId}
use Rattle.page_redo.specs.Rows.{row_fault}
use Rattle.stood_rows.proofs.Slots.{slot_allowed, stands_if, stands_not}
use Rattle.stood_rows.proofs.slot.stands.Goals as goal

pub slot_says-requires : goal.slot_says-requires
slot_says-requires c = record {
  slot = c.row_fault-fault.ensures.slot c.in-None.is;
  allowed = slot_allowed c.page_changed-id.result c.args.change.now.place.slot c.args.change.now.key c.args.page.now (cc);
}

pub returns-in-None : goal.returns-in-None
returns-in-None c = stands_if c.args.page.now c.args.change.now c.slot_says.result (cc) c.slot_says.ensures

pub returns-in-Some : goal.returns-in-Some
returns-in-Some c =
    stands_not c.args.page.now c.args.change.now c.row_fault-fault.result
    (c.row_fault-fault.ensures.exact ∙ ap (λ (id : PageId). row_fault id c.args.change.now.place.slot c.args.change.now.key c.args.page.now) c.page_changed-id.ensures) (λ e. absurd cc)
