use Rattle.std.proofs.Common.{arith}
use Rattle.opening_rows.proofs.Told.{err_on}
use Rattle.opening_rows.proofs.FreshMore.{fresh_start, fresh_on, fresh_all}
use Rattle.opening_rows.proofs.fresh.read_trans.Goals as goal

pub loop-n-init : goal.loop-n-init
loop-n-init g c = fresh_start _ _ c.new-logs.result.items (cc)

pub loop-n-preserved : goal.loop-n-preserved
loop-n-preserved g c = fresh_on _ _ _ _ _ _ c.loop-n.n c.loop-n.logs.items c.read_next.new.logs.items _ c.loop-n-test.true c.loop-n.invariant c.in_ok-read_next.ensures

pub returns-in_err-read_next : goal.returns-in_err-read_next
returns-in_err-read_next g c =
    err_on _ _ _ _ _ _ _ _ c.loop-n.n _ _ _ _ c.in_err-read_next.field-0.0 c.from_residual.result c.from_residual.ensures.1 c.loop-n.invariant c.in_err-read_next.ensures (λ m at x p q. q)

pub returns : goal.returns
returns g c = fresh_all _ _ _ _ c.loop-n.n c.loop-n.logs (omega arith) (g.D.Disk.has_logs c.args.disk.now) c.loop-n.invariant
