use Rattle.std.proofs.Common.{◌∙◌, ap}
use Rattle.std.specs.FinMap as finite
use Rattle.number_map.proofs.Maps.{one_set}
use Rattle.number_map.proofs.map.NumberMap.put.Goals as goal

pub returns : goal.returns
returns g c = one_set c.self.inside.numbers.entries c.insert.new.self.entries c.args.number c.args.value c.in_ok-insert.ensures.updates.0 ∙ ap (λ m. finite.insert m c.args.number c.args.value) c.self.view_is
