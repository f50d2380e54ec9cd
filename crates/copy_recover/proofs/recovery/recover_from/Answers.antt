use Rattle.std.proofs.Common.{ℕ, List, Result, Some, refl, sym, subst, ◌∙◌, arith}
use Rattle.ds_model.specs.declared.log.LogRecord.{LogRecord}
use Rattle.table_copy.specs.declared.fault.CopyFault.{CopyFault}
use Rattle.table_copy.specs.declared.fault.CopyFault.TheVariants as fault
use Rattle.table_copy.proofs.Told.{handed_on}
use Rattle.copy_recover.specs.Recovered.{written_names}
use Rattle.copy_recover.specs.Recovering.{Recovers}
use Rattle.copy_recover.specs.Writing.{Writes}
use Rattle.copy_recover.proofs.Image_whole.{is_image}
use Rattle.copy_recover.proofs.Whole.{around, merged_in, misnamed, logs_unread, unplanned, wanting_all, refused, all_recovered}
use Rattle.copy_recover.proofs.recovery.recover_from.Goals as goal

pub write_pages-requires : goal.write_pages-requires
write_pages-requires g c = is_image c.args.image.now c.args.table c.in_ok-plan.plan.greatest.lrsn (sym c.in_ok-at.ensures ∙ c.in-None-2.is)

pub returns-in-Some : goal.returns-in-Some
returns-in-Some g c =
    misnamed c.args.table (g.D.Disk.contents c.args.disk.now) (g.D.Disk.faults c.args.disk.now) (Some c.args.image.now) (Some c.args.image.now) 0 0 c.in-Some.at c.args.image.now refl (omega arith)
    (sym c.name_fault.ensures ∙ c.in-Some.is)

pub returns-in_err-logs : goal.returns-in_err-logs
returns-in_err-logs g c =
    let image = Some c.args.image.now in
    handed_on
    (λ (r : Result ℕ CopyFault).
    Recovers c.args.table (around (g.D.Disk.contents c.args.disk.now) (g.D.Disk.faults c.args.disk.now) image 0) (around (g.D.Disk.contents c.read_logs.new.disk) (g.D.Disk.faults c.read_logs.new.disk) image 0) r)
    c.in_err-logs.field-0.0 c.from_residual.result c.from_residual.ensures.1
    (logs_unread c.args.table (g.D.Disk.contents c.args.disk.now) (g.D.Disk.contents c.read_logs.new.disk) _ _ image image 0 0 c.args.image.now c.in_err-logs.field-0.0 refl (omega arith)
    (sym c.name_fault.ensures ∙ c.in-None.is) c.in_err-logs.ensures)

pub returns-in_err-plan : goal.returns-in_err-plan
returns-in_err-plan g c =
    let image = Some c.args.image.now in
    let read = c.in_ok-logs.ensures in
    handed_on
    (λ (r : Result ℕ CopyFault).
    Recovers c.args.table (around (g.D.Disk.contents c.args.disk.now) (g.D.Disk.faults c.args.disk.now) image 0) (around (g.D.Disk.contents c.read_logs.new.disk) (g.D.Disk.faults c.read_logs.new.disk) image 0) r)
    c.in_err-plan.field-0.0 c.from_residual-in_err-plan.result c.from_residual-in_err-plan.ensures.1
    (unplanned c.args.table (g.D.Disk.contents c.args.disk.now) (g.D.Disk.contents c.read_logs.new.disk) _ _ image image 0 0 c.args.image.now c.in_ok-logs.logs c.in_err-plan.field-0.0 refl (omega arith)
    (sym c.name_fault.ensures ∙ c.in-None.is) read.same read.later read.ok c.in_err-plan.ensures)

pub returns-in_err-at : goal.returns-in_err-at
returns-in_err-at g c =
    let image = Some c.args.image.now in
    let read = c.in_ok-logs.ensures in
    handed_on
    (λ (r : Result ℕ CopyFault).
    Recovers c.args.table (around (g.D.Disk.contents c.args.disk.now) (g.D.Disk.faults c.args.disk.now) image 0) (around (g.D.Disk.contents c.read_logs.new.disk) (g.D.Disk.faults c.read_logs.new.disk) image 0) r)
    fault.NoMemory c.from_residual-in_err-at.result c.from_residual-in_err-at.ensures.1
    (wanting_all c.args.table (g.D.Disk.contents c.args.disk.now) (g.D.Disk.contents c.read_logs.new.disk) _ _ image image 0 0 read.same read.later (omega arith))

pub returns-in-Some-2 : goal.returns-in-Some-2
returns-in-Some-2 g c =
    let image = Some c.args.image.now in
    let read = c.in_ok-logs.ensures in
    let plan = c.in_ok-plan.ensures.ok in
    refused c.args.table (g.D.Disk.contents c.args.disk.now) (g.D.Disk.contents c.read_logs.new.disk) _ _ image image 0 0 c.in-Some-2.at c.args.image.now c.in_ok-logs.logs c.in_ok-plan.plan refl (omega arith) read.same read.later read.ok
    plan.0 plan.1 (sym c.in_ok-at.ensures ∙ c.in-Some-2.is)

pub returns : goal.returns
returns g c =
    let image = Some c.args.image.now in
    let read = c.in_ok-logs.ensures in
    let plan = c.in_ok-plan.ensures.ok in
    all_recovered c.args.table (g.D.Disk.contents c.args.disk.now) (g.D.Disk.contents c.read_logs.new.disk) (g.D.Disk.contents c.write_pages.new.disk) (g.D.Disk.faults c.args.disk.now) (g.D.Disk.faults c.read_logs.new.disk)
    (g.D.Disk.faults c.write_pages.new.disk) image image 0 0 c.args.image.now c.in_ok-logs.logs c.in_ok-plan.plan c.write_pages.result refl (omega arith) read.same read.later read.ok plan.0 plan.1
    (sym c.in_ok-at.ensures ∙ c.in-None-2.is)
    (subst
    (λ (rs : List LogRecord).
    Writes (g.D.Disk.contents c.read_logs.new.disk) (g.D.Disk.contents c.write_pages.new.disk) (g.D.Disk.faults c.read_logs.new.disk) (g.D.Disk.faults c.write_pages.new.disk) c.args.image.now c.args.table rs
    (written_names c.args.image.now c.args.table rs) c.write_pages.result)
    (c.records.ensures ∙ merged_in c.in_ok-logs.logs c.in_ok-plan.plan plan.0) c.write_pages.ensures)
