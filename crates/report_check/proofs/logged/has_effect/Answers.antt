use Rattle.std.proofs.Common.{◌≡◌, ◌∙◌, List, ap, subst, map}
use Rattle.std.specs.Prelude.{IfOk, Decides}
use denote.Ref.{Bor}
use Rattle.ds_model.specs.declared.log.LogRecord.{LogRecord}
use Rattle.ds_model.specs.Effect.{after_tran}
use Rattle.ds_model.specs.Logs.{after_records}
use Rattle.report_check.specs.Ledgers.{held, shown}
use Rattle.report_check.proofs.logged.has_effect.Goals as goal

pub returns-in-Some-clause-same : goal.returns-in-Some-clause-same
returns-in-Some-clause-same c =
    let seen : map (λ (r : Bor LogRecord). r.now) c.as_slice.result.now ≡ held c.args.ledger.now c.args.place c.args.tran =
    ap (map (λ (r : Bor LogRecord). r.now)) c.as_slice.ensures.value ∙ ap shown c.in-Some.ensures.value in
    subst (λ (l : List LogRecord). IfOk c.have_one_effect.result (λ same. Decides same (after_records c.args.rows.now l ≡ after_tran c.args.rows.now c.args.ops.now))) seen c.have_one_effect.ensures.same
