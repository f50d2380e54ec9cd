use Rattle.std.proofs.Common.{◌∙◌, sym, ap}
use Rattle.std.specs.FinMap as finite
use Rattle.spot_map.proofs.Spots.{get_spot}
use Rattle.spot_map.proofs.map.SpotMap.get.Goals as goal

pub returns : goal.returns
returns g c = c.copied.ensures ∙ c.get.ensures.value ∙ sym (get_spot c.self.inside.spots.entries (c.args.table, c.args.key)) ∙ ap (λ m. finite.get m (c.args.table, c.args.key)) c.self.view_is
