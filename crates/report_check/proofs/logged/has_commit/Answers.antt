use Rattle.std.proofs.Common.{◌≡◌, ◌∙◌, ◌-◌, [], true≢false, sym, ap, get_or}
use Rattle.std.proofs.lemmas.Result.{IfOk-weaker}
use Rattle.ds_model.specs.Rows.{Rows}
use Rattle.ds_model.specs.Effect.{after_tran}
use Rattle.ds_model.specs.Logs.{after_records}
use Rattle.report_check.specs.Commits.{of_tran, at_member}
use Rattle.report_check.specs.Ledgers.{held}
use Rattle.report_check.proofs.Noting.{queues}
use Rattle.report_check.proofs.Walking.{none_makes, first_makes, first_must}
use Rattle.report_check.proofs.logged.has_commit.Goals as goal

pub returns-in-None-clause-same : goal.returns-in-None-clause-same
returns-in-None-clause-same c = λ logs h.
    let rows : Rows = c.args.rows.now in (
      λ e. absurd (true≢false (sym e)),
      λ m. absurd (none_makes (at_member logs c.args.member) rows (after_tran rows c.args.ops.now) (at_member (queues c.args.commits.now) c.args.member) c.in-None.ensures.first m),
    )

pub returns-in-Some-clause-same : goal.returns-in-Some-clause-same
returns-in-Some-clause-same c = λ logs h.
    let rows : Rows = c.args.rows.now in
    let wanted : Rows = after_tran rows c.args.ops.now in
    let log = at_member logs c.args.member in
    let commits = at_member (queues c.args.commits.now) c.args.member in
    let tran = c.in-Some.tran in
    let place = c.number.result - 1 in
    let rest : held c.args.ledger.now place tran ≡ of_tran tran log = h place tran ∙ ap (λ k. of_tran tran (get_or logs (k - 1) [])) c.number.ensures.value in
    IfOk-weaker c.has_effect.result _ _
    (λ same d. (
      λ e. first_makes log rows wanted commits tran c.in-Some.ensures.first (ap (after_records rows) (sym rest) ∙ d.0 e),
      λ m. d.1 (ap (after_records rows) rest ∙ first_must log rows wanted commits tran c.in-Some.ensures.first m),
    ))
    c.has_effect.ensures.same
