use Rattle.kept_checkpoints.proofs.Rechecking.{recheck_tells, needs_are_left}
use Rattle.kept_checkpoints.proofs.recheck.recheck_laws.Goals as goal

pub returns : goal.returns
returns c = record { tells = recheck_tells; needs = needs_are_left }
