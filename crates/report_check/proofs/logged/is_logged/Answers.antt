use Rattle.std.proofs.Common.{List, sym, subst}
use Rattle.std.specs.Prelude.{IfOk, Decides}
use Rattle.ds_model.specs.declared.script.Op.{Op}
use Rattle.ds_model.specs.declared.fate.Fate.{Fate}
use Rattle.ds_model.specs.Effect.{after_tran}
use Rattle.report_check.specs.Commits.{at_member, FirstMakes, FateIsLogged}
use Rattle.report_check.proofs.Noting.{queues}
use Rattle.report_check.proofs.logged.is_logged.Goals as goal

pub returns-in-Committed-clause-same : goal.returns-in-Committed-clause-same
returns-in-Committed-clause-same c = λ logs h.
    let e = c.args.entry.now in
    let rows = c.args.rows.now in
    let commits = queues c.args.commits.now in
    subst (λ (f : Fate). IfOk c.has_commit.result (λ same. Decides same (FateIsLogged (at_member logs e.member) (at_member commits e.member) rows e.tran.ops f))) (sym c.in-Committed.is)
    (subst (λ (ops : List Op). IfOk c.has_commit.result (λ same. Decides same (FirstMakes (at_member logs e.member) (at_member commits e.member) rows (after_tran rows ops)))) c.as_slice-ops.ensures
    (c.has_commit.ensures.same logs h))
