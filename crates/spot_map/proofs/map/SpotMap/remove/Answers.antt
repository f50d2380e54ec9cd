use Rattle.std.proofs.Common.{◌∙◌, ap}
use Rattle.std.specs.FinMap as finite
use Rattle.spot_map.proofs.Spots.{one_gone}
use Rattle.spot_map.proofs.map.SpotMap.remove.Goals as goal

pub returns : goal.returns
returns g c = one_gone c.self.inside.spots.entries c.remove.new.self.entries (c.args.table, c.args.key) c.remove.ensures.updates.0 ∙ ap (λ m. finite.remove m (c.args.table, c.args.key)) c.self.view_is
