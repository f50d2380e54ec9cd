use Rattle.std.proofs.Common.{◌∙◌, ap}
use Rattle.std.specs.FinMap as finite
use Rattle.spot_map.proofs.Spots.{counted}
use Rattle.spot_map.proofs.map.SpotMap.len.Goals as goal

pub returns-clause-count : goal.returns-clause-count
returns-clause-count g c = c.len.ensures.len ∙ counted c.self.inside.spots.entries c.len.ensures.ordered ∙ ap (λ m. finite.len m) c.self.view_is
