use Rattle.std.proofs.Common.{◌≡◌, ℕ, ◌∙◌, sym, ap, subst, take}
use Rattle.std.specs.Prelude.{IfOk}
use Rattle.std.specs.BTreeSet as set
use Rattle.std.specs.Ordering.{nat_cmp}
use Rattle.std.proofs.lemmas.List.{take_all}
use denote.Ref.{Bor}
use Rattle.ds_model.specs.declared.log.LogRecord.{LogRecord}
use Rattle.ds_model.specs.Rows.{Rows, listed}
use Rattle.ds_model.specs.Logs.{after_body, rows_of_logs}
use Rattle.report_check.specs.Records.{records_of}
use Rattle.report_check.proofs.Keeping.{rows_so_far, row_more, rows_are}
use Rattle.report_check.proofs.rows.rows_of.Goals as goal

pub loop-item-preserved : goal.loop-item-preserved
loop-item-preserved c =
    let items = c.deref-item-items.result.now in
    let i = c.loop-item.item-index in
    c.in_ok-apply.ensures
    ∙ ap (λ (m : Rows). after_body m c.item-item.result.1.now.body) c.loop-item.invariant
    ∙ ap (λ (p : ℕ × Bor LogRecord). after_body (rows_so_far (take i items)) p.1.now.body) c.item-item.is
    ∙ sym (row_more items i c.item-item.result c.loop-item-test.true)

pub returns-clause-rows : goal.returns-clause-rows
returns-clause-rows c =
    let items = c.deref-item-items.result.now in
    let made : c.loop-item.rows ≡ rows_of_logs (records_of c.args.logs.now) =
    c.loop-item.invariant
    ∙ ap rows_so_far (take_all c.loop-item.item-index items c.loop-item-test.false ∙ c.deref-item-items.ensures.value)
    ∙ rows_are (set.contains nat_cmp c.in_ok-trans.trans) c.args.logs.now c.in_ok-records_by.field-0.items c.in_ok-sorted.sorted.items c.in_ok-trans.ensures c.in_ok-records_by.ensures c.in_ok-sorted.ensures in
    subst (λ (m : Rows). IfOk c.into_rows.result (λ rows. rows ≡ listed m)) made c.into_rows.ensures.rows
