use Rattle.std.proofs.Common.{◌∙◌, ap, cond}
use Rattle.std.specs.Prelude.{None}
use Rattle.std.specs.BTreeMap as tree
use Rattle.report_check.specs.Ledgers.{pair_cmp, shown}
use Rattle.report_check.proofs.Noting.{apart}
use Rattle.report_check.proofs.ledger.take.Goals as goal

pub returns-in-Some-clause-others : goal.returns-in-Some-clause-others
returns-in-Some-clause-others c = λ p t h.
    ap shown (c.remove.ensures.updates.0 (p, t) ∙ ap (λ b. cond b None (tree.get pair_cmp c.args.ledger.now (p, t))) (apart c.args.place c.args.tran p t h))
