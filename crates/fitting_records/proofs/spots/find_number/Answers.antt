use Rattle.fitting_records.proofs.Seeking.{number_told}
use Rattle.fitting_records.proofs.spots.find_number.Goals as goal

pub returns : goal.returns
returns g c = number_told _ _ _ _ c.args.ends.now c.args.number c.find_sought.result c.find_sought.ensures
