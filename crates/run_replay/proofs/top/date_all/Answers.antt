use Rattle.std.proofs.Common.{arith}
use Rattle.run_replay.specs.Beginning.{IsParted}
use Rattle.run_replay.proofs.Following.{carried, parted}
use Rattle.run_replay.proofs.top.date_all.Goals as goal

pub returns-in_err-find_dates-clause-err : goal.returns-in_err-find_dates-clause-err
returns-in_err-find_dates-clause-err c =
    carried c.from_residual-in_err-find_dates.result c.in_err-find_dates.field-0.0 (IsParted c.args.script.now c.args.events.now) (λ z so. grind (arith, so, c.from_residual-in_err-find_dates.ensures))
    (parted c.args.script.now c.in_ok-group.group c.args.events.now c.in_err-find_dates.field-0.0 c.in_ok-group.ensures c.in_err-find_dates.ensures.err)

pub returns-clause-ok : goal.returns-clause-ok
returns-clause-ok c = record { start = c.in_ok-group.group; begins = c.in_ok-group.ensures; last = c.find_dates.new.group; dates = c.in_ok-find_dates.ensures.ok }
