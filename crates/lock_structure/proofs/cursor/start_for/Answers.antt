use Rattle.std.proofs.Common.{arith, sym}
use Rattle.lock_structure.proofs.Placed.{first_before}
use Rattle.lock_structure.proofs.cursor.start_for.Goals as goal

pub returns-in_default-clause-placed : goal.returns-in_default-clause-placed
returns-in_default-clause-placed c cs p = (omega arith, sym (first_before c.args.member cs))
