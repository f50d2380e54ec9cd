use Rattle.std.proofs.Common.{◌≡◌, ℕ, List, Result, Ok, Err, subst, ◌∙◌}
use Rattle.page_records.specs.Places.{by_page}
use Rattle.page_records.specs.declared.places.PageRecords.{PageRecords}
use Rattle.table_copy.specs.declared.fault.CopyFault.{CopyFault}
use Rattle.table_copy.specs.declared.fault.CopyFault.TheVariants as fault
use Rattle.table_copy.proofs.Told.{handed_on}
use Rattle.copy_recover.specs.Recovered.{more_names, written_names}
use Rattle.copy_recover.specs.Writing.{held_names, Writes}
use Rattle.copy_recover.proofs.Steps.{none_wanting, both_done, both_wanting, first_missed, second_missed}
use Rattle.copy_recover.proofs.pages.write_pages.Goals as goal

pub returns-in_err-changed : goal.returns-in_err-changed
returns-in_err-changed g c =
    let d = g.D.Disk.contents c.args.disk.now in
    let f = g.D.Disk.faults c.args.disk.now in
    handed_on (λ (r : Result ℕ CopyFault). Writes d d f f c.args.image.now c.args.table c.args.records.now (written_names c.args.image.now c.args.table c.args.records.now) r) fault.NoMemory c.from_residual.result
    c.from_residual.ensures.1 (none_wanting c.args.image.now c.args.table c.args.records.now (written_names c.args.image.now c.args.table c.args.records.now) d f)

pub returns-in_err-held : goal.returns-in_err-held
returns-in_err-held g c =
    let image = c.args.image.now in
    let table = c.args.table in
    let records = c.args.records.now in
    handed_on
    (λ (r : Result ℕ CopyFault).
    Writes (g.D.Disk.contents c.args.disk.now) (g.D.Disk.contents c.write_held.new.disk) (g.D.Disk.faults c.args.disk.now) (g.D.Disk.faults c.write_held.new.disk) image table records
    (written_names image table records) r)
    c.in_err-held.field-0.0 c.from_residual-in_err-held.result c.from_residual-in_err-held.ensures.1
    (first_missed image table records (held_names image table) (more_names image table (by_page records)) c.in_err-held.field-0.0 _ _ _ _ c.in_err-held.ensures)

pub returns-in_err-more : goal.returns-in_err-more
returns-in_err-more g c =
    let image = c.args.image.now in
    let table = c.args.table in
    let records = c.args.records.now in
    let changed : c.as_slice-changed.result.now ≡ by_page records = c.as_slice-changed.ensures ∙ c.in_ok-changed.ensures in
    handed_on
    (λ (r : Result ℕ CopyFault).
    Writes (g.D.Disk.contents c.args.disk.now) (g.D.Disk.contents c.write_rest.new.disk) (g.D.Disk.faults c.args.disk.now) (g.D.Disk.faults c.write_rest.new.disk) image table records
    (written_names image table records) r)
    c.in_err-more.field-0.0 c.from_residual-in_err-more.result c.from_residual-in_err-more.ensures.1
    (second_missed image table records (held_names image table) (more_names image table (by_page records)) c.in_ok-held.held c.in_err-more.field-0.0 _ _ _ _ _ _ c.in_ok-held.ensures
    (subst
    (λ (ps : List PageRecords).
    Writes (g.D.Disk.contents c.write_held.new.disk) (g.D.Disk.contents c.write_rest.new.disk) (g.D.Disk.faults c.write_held.new.disk) (g.D.Disk.faults c.write_rest.new.disk) image table records
    (more_names image table ps) (Err c.in_err-more.field-0.0))
    changed c.in_err-more.ensures))

pub returns-in_err-sum : goal.returns-in_err-sum
returns-in_err-sum g c =
    let image = c.args.image.now in
    let table = c.args.table in
    let records = c.args.records.now in
    let changed : c.as_slice-changed.result.now ≡ by_page records = c.as_slice-changed.ensures ∙ c.in_ok-changed.ensures in
    handed_on
    (λ (r : Result ℕ CopyFault).
    Writes (g.D.Disk.contents c.args.disk.now) (g.D.Disk.contents c.write_rest.new.disk) (g.D.Disk.faults c.args.disk.now) (g.D.Disk.faults c.write_rest.new.disk) image table records
    (written_names image table records) r)
    fault.NoMemory c.from_residual-in_err-sum.result c.from_residual-in_err-sum.ensures.1
    (both_wanting image table records (held_names image table) (more_names image table (by_page records)) c.in_ok-held.held c.in_ok-more.more _ _ _ _ _ _ c.in_ok-held.ensures
    (subst
    (λ (ps : List PageRecords).
    Writes (g.D.Disk.contents c.write_held.new.disk) (g.D.Disk.contents c.write_rest.new.disk) (g.D.Disk.faults c.write_held.new.disk) (g.D.Disk.faults c.write_rest.new.disk) image table records
    (more_names image table ps) (Ok c.in_ok-more.more))
    changed c.in_ok-more.ensures))

pub returns : goal.returns
returns g c =
    let image = c.args.image.now in
    let table = c.args.table in
    let records = c.args.records.now in
    let changed : c.as_slice-changed.result.now ≡ by_page records = c.as_slice-changed.ensures ∙ c.in_ok-changed.ensures in
    both_done image table records (held_names image table) (more_names image table (by_page records)) c.in_ok-held.held c.in_ok-more.more _ _ _ _ _ _ _ c.in_ok-sum.ensures c.in_ok-held.ensures
    (subst
    (λ (ps : List PageRecords).
    Writes (g.D.Disk.contents c.write_held.new.disk) (g.D.Disk.contents c.write_rest.new.disk) (g.D.Disk.faults c.write_held.new.disk) (g.D.Disk.faults c.write_rest.new.disk) image table records
    (more_names image table ps) (Ok c.in_ok-more.more))
    changed c.in_ok-more.ensures)
