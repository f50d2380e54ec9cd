use Rattle.std.proofs.Common.{◌≡◌, ℕ, true, Result, sym, ◌∙◌, arith}
use Rattle.table_copy.specs.declared.fault.CopyFault.{CopyFault}
use Rattle.table_copy.specs.declared.fault.CopyFault.TheVariants as fault
use Rattle.table_copy.proofs.Told.{handed_on}
use Rattle.copy_recover.specs.Recovered.{is_more, more_names}
use Rattle.copy_recover.specs.Writing.{Writes}
use Rattle.copy_recover.proofs.Page_steps.{done_none}
use Rattle.copy_recover.proofs.Steps.{rest_more, rest_missed, rest_wanting, all_rest}
use Rattle.copy_recover.proofs.pages.write_rest.Goals as goal

pub loop-own-init : goal.loop-own-init
loop-own-init g c = done_none c.args.image.now c.args.table c.args.records.now (g.D.Disk.contents c.args.disk.now) (g.D.Disk.faults c.args.disk.now)

pub loop-own-preserved : goal.loop-own-preserved
loop-own-preserved g c =
    let own_is : is_more c.args.image.now c.args.table c.own-item.result.page ≡ true = sym c.is_more.ensures ∙ c.if-not-is_more.false in
    rest_more c.args.image.now c.args.table c.args.records.now c.args.changed.now c.loop-own.own-index c.loop-own.some _ c.in_ok-is_some.is_some c.own-item.result _ _ _ _ _ _ c.loop-own-test.true c.own-item.is own_is
    c.in_ok-some.ensures c.loop-own.invariant c.in_ok-is_some.ensures

pub returns-in_err-is_some : goal.returns-in_err-is_some
returns-in_err-is_some g c =
    let image = c.args.image.now in
    let own_is : is_more c.args.image.now c.args.table c.own-item.result.page ≡ true = sym c.is_more.ensures ∙ c.if-not-is_more.false in
    handed_on
    (λ (r : Result ℕ CopyFault).
    Writes (g.D.Disk.contents c.args.disk.now) (g.D.Disk.contents c.write_more.new.disk) (g.D.Disk.faults c.args.disk.now) (g.D.Disk.faults c.write_more.new.disk) image c.args.table c.args.records.now
    (more_names image c.args.table c.args.changed.now) r)
    c.in_err-is_some.field-0.0 c.from_residual.result c.from_residual.ensures.1
    (rest_missed image c.args.table c.args.records.now c.args.changed.now c.loop-own.own-index c.loop-own.some c.in_err-is_some.field-0.0 c.own-item.result _ _ _ _ _ _ c.loop-own-test.true c.own-item.is own_is
    c.loop-own.invariant c.in_err-is_some.ensures)

pub returns-in_err-some : goal.returns-in_err-some
returns-in_err-some g c =
    let image = c.args.image.now in
    let own_is : is_more c.args.image.now c.args.table c.own-item.result.page ≡ true = sym c.is_more.ensures ∙ c.if-not-is_more.false in
    handed_on
    (λ (r : Result ℕ CopyFault).
    Writes (g.D.Disk.contents c.args.disk.now) (g.D.Disk.contents c.write_more.new.disk) (g.D.Disk.faults c.args.disk.now) (g.D.Disk.faults c.write_more.new.disk) image c.args.table c.args.records.now
    (more_names image c.args.table c.args.changed.now) r)
    fault.NoMemory c.from_residual-in_err-some.result c.from_residual-in_err-some.ensures.1
    (rest_wanting image c.args.table c.args.records.now c.args.changed.now c.loop-own.own-index c.loop-own.some c.in_ok-is_some.is_some c.own-item.result _ _ _ _ _ _ c.loop-own-test.true c.own-item.is own_is
    c.loop-own.invariant c.in_ok-is_some.ensures)

pub returns : goal.returns
returns g c = all_rest c.args.image.now c.args.table c.args.records.now c.args.changed.now c.loop-own.own-index c.loop-own.some _ _ _ _ (omega arith) c.loop-own.invariant
