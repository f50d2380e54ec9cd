use Rattle.fitting_records.proofs.Ranging.{unfit_told}
use Rattle.fitting_records.proofs.ranges.find_first_unfit.Goals as goal

pub returns : goal.returns
returns g c = unfit_told _ _ _ _ c.args.ends.now c.in_ok-first.first c.spot_at.result c.spot_at.ensures c.in_ok-first.ensures
