use Rattle.std.proofs.Common.{ℕ, List, Result, sym, subst}
use Rattle.table_copy.specs.declared.fault.CopyFault.{CopyFault}
use Rattle.table_copy.proofs.Told.{handed_on}
use Rattle.copy_recover.specs.Recovering.{Recovers}
use Rattle.copy_recover.specs.Reading.{WereLeft}
use Rattle.copy_recover.proofs.Whole.{around, image_unread, read_and_recovered}
use Rattle.copy_recover.proofs.recovery.recover.Goals as goal

pub returns-in_err-image : goal.returns-in_err-image
returns-in_err-image g c =
    let d = g.D.Disk.contents c.args.disk.now in
    let f = g.D.Disk.faults c.args.disk.now in
    handed_on
    (λ (r : Result ℕ CopyFault).
    Recovers c.args.table (around d f (g.S.Source.left c.args.source.now) (g.S.Source.faults c.args.source.now))
    (around d f (g.S.Source.left c.read_image.new.source) (g.S.Source.faults c.read_image.new.source)) r)
    c.in_err-image.field-0.0 c.from_residual.result c.from_residual.ensures.1 (image_unread c.args.table d f _ _ _ _ c.in_err-image.field-0.0 c.in_err-image.ensures)

pub returns : goal.returns
returns g c =
    read_and_recovered c.args.table _ _ _ _ (g.S.Source.left c.args.source.now) _ (g.S.Source.faults c.args.source.now) (g.S.Source.faults c.read_image.new.source) c.deref.result.now c.recover_from.result
    (subst (λ (b : List ℕ). WereLeft (g.S.Source.left c.args.source.now) b) (sym c.deref.ensures.value) c.in_ok-image.ensures.ok) c.in_ok-image.ensures.later c.recover_from.ensures
