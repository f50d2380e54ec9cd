use Rattle.std.proofs.Common.{inl}
use Rattle.opening_rows.proofs.Told.{err_on}
use Rattle.opening_rows.proofs.Judged.{judged, judged_not}
use Rattle.opening_rows.proofs.check.check_by_blocks.Goals as goal

pub returns-in_err-kept-clause-judged : goal.returns-in_err-kept-clause-judged
returns-in_err-kept-clause-judged g c =
    err_on _ _ _ _ _ _ _ _ c.in_ok-left.left _ _ _ _ c.in_err-kept.field-0.0 c.from_residual-in_err-kept.result c.from_residual-in_err-kept.ensures.1 c.in_ok-left.ensures.opening c.in_err-kept.ensures (λ m at x p q. inl q)

pub returns-clause-judged : goal.returns-clause-judged
returns-clause-judged g c =
    judged _ _ _ _ _ _ c.args.script.now c.args.opening.now c.in_ok-left.left c.args.entries.now c.in_ok-kept.kept c.in_ok-rows.rows _ c.deref.ensures.value c.in_ok-left.ensures.opening c.in_ok-kept.ensures
    (λ logs stood k. c.in_ok-rows.ensures.judges logs stood k)

pub returns-in_err-rows-clause-judged : goal.returns-in_err-rows-clause-judged
returns-in_err-rows-clause-judged g c = judged_not _ _ _ _ _ _ c.in_ok-left.left _ c.in_ok-kept.kept _ c.from_residual-in_err-rows.result c.in_ok-left.ensures.opening c.in_ok-kept.ensures c.from_residual-in_err-rows.ensures.1
