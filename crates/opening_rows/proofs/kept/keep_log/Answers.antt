use Rattle.opening_rows.proofs.Told.{err_on}
use Rattle.opening_rows.proofs.KeptMore.{kept_told}
use Rattle.opening_rows.proofs.kept.keep_log.Goals as goal

pub returns-in_err-second : goal.returns-in_err-second
returns-in_err-second g c =
    err_on _ _ _ _ _ _ _ _ c.in_ok-first.first _ _ _ _ c.in_err-second.field-0.0 c.from_residual-in_err-second.result c.from_residual-in_err-second.ensures.1 c.in_ok-first.ensures c.in_err-second.ensures (λ m at x p q. q)

pub returns : goal.returns
returns g c = kept_told _ _ _ _ _ _ c.args.member c.args.had _ c.in_ok-first.first c.in_ok-second.second c.committed-commits.result c.kept_of.result c.in_ok-first.ensures c.committed-commits.ensures c.in_ok-second.ensures c.kept_of.ensures.records c.kept_of.ensures.before c.kept_of.ensures.tail
