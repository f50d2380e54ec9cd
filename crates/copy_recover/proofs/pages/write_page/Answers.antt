use Rattle.std.proofs.Common.{◌≡◌, ℕ, Bool, Result, Err, sym, ap, subst, ◌∙◌}
use Rattle.std.specs.Prelude.{not}
use Rattle.ds_base.specs.declared.names.Volume.TheVariants as volume
use Rattle.page_redo.specs.Forward.{brought_forward}
use Rattle.table_copy.specs.declared.fault.CopyFault.{CopyFault}
use Rattle.table_copy.specs.declared.fault.CopyFault.TheVariants as fault
use Rattle.table_copy.proofs.Told.{handed_on}
use Rattle.copy_recover.specs.Writing.{WritesPage}
use Rattle.copy_recover.proofs.Page_steps.{page_damaged, page_put, page_not_put}
use Rattle.copy_recover.proofs.pages.write_page.Goals as goal

pub returns-in-Err : goal.returns-in-Err
returns-in-Err g c =
    let d = g.D.Disk.contents c.args.disk.now in
    let f = g.D.Disk.faults c.args.disk.now in
    let at_is : c.in-Err.fault.at ≡ c.from.result = cc in
    subst
    (λ (k : ℕ). WritesPage d d f f c.args.id (brought_forward c.args.id c.args.page.now c.args.records.now) (Err (fault.Damaged (volume.Page c.args.id) k)))
    at_is (page_damaged c.args.id (brought_forward c.args.id c.args.page.now c.args.records.now) c.in-Err.fault d f (sym c.bring.ensures.outcome ∙ c.in-Err.is))

pub returns-in_ok-put-in-Ok : goal.returns-in_ok-put-in-Ok
returns-in_ok-put-in-Ok g c =
    page_put c.args.id (brought_forward c.args.id c.args.page.now c.args.records.now) c.bring.new.page c.in-Ok.field-0 _ (g.D.Disk.contents c.args.disk.now) (g.D.Disk.contents c.put.new.disk)
    (g.D.Disk.faults c.args.disk.now) (g.D.Disk.faults c.put.new.disk) (sym c.bring.ensures.outcome ∙ c.in-Ok.is) c.bring.ensures.page (ap not c.is_blank.ensures) c.in_ok-put-in-Ok.ensures

pub returns-in_err-put-in-Ok : goal.returns-in_err-put-in-Ok
returns-in_err-put-in-Ok g c =
    handed_on
    (λ (r : Result Bool CopyFault).
    WritesPage (g.D.Disk.contents c.args.disk.now) (g.D.Disk.contents c.put.new.disk) (g.D.Disk.faults c.args.disk.now) (g.D.Disk.faults c.put.new.disk) c.args.id
    (brought_forward c.args.id c.args.page.now c.args.records.now) r)
    c.in_err-put-in-Ok.field-0.0 c.from_residual.result c.from_residual.ensures.1
    (page_not_put c.args.id (brought_forward c.args.id c.args.page.now c.args.records.now) c.bring.new.page _ _ _ _ c.in_err-put-in-Ok.field-0.0 c.bring.ensures.page c.in_err-put-in-Ok.ensures)
