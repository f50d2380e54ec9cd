use Rattle.std.proofs.Common.{◌∙◌, sym, ap}
use Rattle.std.specs.FinMap as finite
use Rattle.number_map.proofs.Maps.{get_number}
use Rattle.number_map.proofs.map.NumberMap.get.Goals as goal

pub returns : goal.returns
returns g c = c.get.ensures.value ∙ sym (get_number c.self.inside.numbers.entries c.args.number) ∙ ap (λ m. finite.get m c.args.number) c.self.view_is
