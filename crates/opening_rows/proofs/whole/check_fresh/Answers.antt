use Rattle.opening_rows.proofs.Told.{reads_err}
use Rattle.opening_rows.proofs.WholeLogs.{judged_fresh, fresh_wanting}
use Rattle.opening_rows.proofs.whole.check_fresh.Goals as goal

pub returns-in_err-logs-clause-judged : goal.returns-in_err-logs-clause-judged
returns-in_err-logs-clause-judged g c = reads_err _ _ _ _ _ _ _ _ c.in_err-logs.field-0.0 c.from_residual-in_err-logs.result c.from_residual-in_err-logs.ensures.1 c.in_err-logs.ensures (λ m at x b. b)

pub returns-in_err-rows-clause-judged : goal.returns-in_err-rows-clause-judged
returns-in_err-rows-clause-judged g c = fresh_wanting _ _ _ _ c.in_ok-logs.logs _ c.from_residual-in_err-rows.result c.in_ok-logs.ensures c.from_residual-in_err-rows.ensures.1

pub returns-clause-judged : goal.returns-clause-judged
returns-clause-judged g c =
    judged_fresh _ _ _ _ c.args.script.now c.args.opening.now c.args.entries.now c.in_ok-logs.logs c.deref.result.now c.in_ok-rows.rows c.requires.none c.in_ok-logs.ensures c.deref.ensures.value c.in_ok-rows.ensures.judges
