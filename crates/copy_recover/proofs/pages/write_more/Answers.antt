use Rattle.std.proofs.Common.{ℕ, Bool, List, Result, subst}
use Rattle.page_images.specs.Images.{zeros}
use Rattle.page_redo.specs.Forward.{brought_forward}
use Rattle.table_copy.specs.declared.fault.CopyFault.{CopyFault}
use Rattle.table_copy.specs.declared.fault.CopyFault.TheVariants as fault
use Rattle.table_copy.proofs.Told.{handed_on}
use Rattle.copy_recover.specs.Writing.{WritesPage}
use Rattle.copy_recover.proofs.Page_steps.{page_wanting}
use Rattle.copy_recover.proofs.Held.{blank}
use Rattle.copy_recover.proofs.pages.write_more.Goals as goal

pub returns-in_err-page : goal.returns-in_err-page
returns-in_err-page g c =
    let d = g.D.Disk.contents c.args.disk.now in
    let f = g.D.Disk.faults c.args.disk.now in
    handed_on (λ (r : Result Bool CopyFault). WritesPage d d f f c.args.id (brought_forward c.args.id zeros c.args.records.now) r) fault.NoMemory c.from_residual.result c.from_residual.ensures.1
    (page_wanting c.args.id (brought_forward c.args.id zeros c.args.records.now) d f)

pub returns : goal.returns
returns g c =
    subst
    (λ (p : List ℕ).
    WritesPage (g.D.Disk.contents c.args.disk.now) (g.D.Disk.contents c.write_page.new.disk) (g.D.Disk.faults c.args.disk.now) (g.D.Disk.faults c.write_page.new.disk) c.args.id
    (brought_forward c.args.id p c.args.records.now) c.write_page.result)
    (blank c.in_ok-page.page c.in_ok-page.ensures) c.write_page.ensures
