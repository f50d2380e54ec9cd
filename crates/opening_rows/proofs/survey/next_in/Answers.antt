use Rattle.std.proofs.Common.{refl}
use Rattle.opening_rows.proofs.Told.{reads_in}
use Rattle.opening_rows.proofs.survey.next_in.Goals as goal

pub returns-in-Err-clause-next : goal.returns-in-Err-clause-next
returns-in-Err-clause-next g c = reads_in _ _ _ _ c.args.member _ _ _ c.in-Err.fault c.fault_in.result c.fault_in.ensures c.in-Err.ensures.next (λ at x bad. (refl, bad))
