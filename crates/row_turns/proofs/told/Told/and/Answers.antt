use Rattle.row_turns.proofs.Ranging.{both_told}
use Rattle.row_turns.proofs.told.Told.and.Goals as goal

pub returns : goal.returns
returns c = both_told c.args.self.now c.args.other.now (record { out = c.sooner.result; «open» = c.in_ok-open.open; rows = c.in_ok-rows.rows }) c.sooner.ensures c.in_ok-open.ensures c.in_ok-rows.ensures
