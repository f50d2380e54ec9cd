use Rattle.std.proofs.Common.{◌∙◌, ap, cond}
use Rattle.std.specs.Prelude.{Some}
use Rattle.std.specs.BTreeMap as tree
use Rattle.report_check.specs.Ledgers.{pair_cmp, shown}
use Rattle.report_check.proofs.Noting.{apart}
use Rattle.report_check.proofs.ledger.put.Goals as goal

pub returns-clause-others : goal.returns-clause-others
returns-clause-others c = λ p t h.
    ap shown (c.in_ok-insert.ensures.updates.0 (p, t) ∙ ap (λ b. cond b (Some c.args.items) (tree.get pair_cmp c.args.ledger.now (p, t))) (apart c.args.place c.args.tran p t h))
