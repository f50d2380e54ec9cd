use Rattle.std.proofs.Common.{arith}
use Rattle.opening_rows.proofs.RowsTold.{kept_on}
use Rattle.opening_rows.proofs.rows.read_on.Goals as goal

pub returns-clause-kept : goal.returns-clause-kept
returns-clause-kept g c =
    kept_on c.heads_laws.ensures.next _ _ _ _ c.args.member c.args.at _ c.args.heads.now c.fill.new.self c.read_in.new.into _ _ _ _ (omega arith) c.requires c.in_ok-read_in.ensures c.in_ok-fill.ensures.ok c.in_ok-fill.ensures.goes
