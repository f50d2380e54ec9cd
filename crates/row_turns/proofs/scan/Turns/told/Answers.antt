use Rattle.row_turns.proofs.Lefts.{scan_told}
use Rattle.row_turns.proofs.scan.Turns.told.Goals as goal

pub returns : goal.returns
returns c = λ records. scan_told records c.args.self.now c.in_ok-rows.rows c.in_ok-rows.ensures
