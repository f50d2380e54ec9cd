use Rattle.std.proofs.Common.{refl, None}
use Rattle.row_turns.proofs.Turning.{none_turned}
use Rattle.row_turns.proofs.scan.Turns.new.Goals as goal

pub returns-clause-turning : goal.returns-clause-turning
returns-clause-turning c = none_turned (record { range = c.args.range; is_early = c.args.is_early; held = c.new.result; taken = 0; out = None }) c.new.ensures refl refl
