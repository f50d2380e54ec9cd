use Rattle.std.proofs.Common.{refl, arith}
use Rattle.opening_rows.proofs.Told.{err_on}
use Rattle.opening_rows.proofs.KeptMore.{keeps_start, keeps_on, keeps_all}
use Rattle.opening_rows.proofs.kept.keep_logs.Goals as goal

pub loop-n-init : goal.loop-n-init
loop-n-init g c = keeps_start _ _ c.args.had.now _ (cc) (cc) refl

pub loop-n-preserved : goal.loop-n-preserved
loop-n-preserved g c = keeps_on _ _ _ _ _ _ c.loop-n.n c.args.had.now c.loop-n.all c.keep_next.new.all _ c.loop-n-test.true c.loop-n.invariant c.in_ok-keep_next.ensures

pub returns-in_err-keep_next : goal.returns-in_err-keep_next
returns-in_err-keep_next g c =
    err_on _ _ _ _ _ _ _ _ c.loop-n.n _ _ _ _ c.in_err-keep_next.field-0.0 c.from_residual.result c.from_residual.ensures.1 c.loop-n.invariant c.in_err-keep_next.ensures (λ m at x p q. q)

pub returns : goal.returns
returns g c = keeps_all _ _ _ _ c.loop-n.n c.args.had.now c.loop-n.all (omega arith) (g.D.Disk.has_logs c.args.disk.now) c.loop-n.invariant
