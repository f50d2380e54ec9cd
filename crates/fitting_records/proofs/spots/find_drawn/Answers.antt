use Rattle.fitting_records.proofs.Seeking.{drawn_told}
use Rattle.fitting_records.proofs.spots.find_drawn.Goals as goal

pub returns : goal.returns
returns g c = drawn_told _ _ _ _ c.args.ends.now c.args.number c.find_sought.result c.find_sought.ensures
