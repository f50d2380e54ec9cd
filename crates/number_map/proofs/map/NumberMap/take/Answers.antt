use Rattle.std.proofs.Common.{◌∙◌, sym, ap}
use Rattle.std.specs.FinMap as finite
use Rattle.number_map.proofs.Maps.{get_number, one_gone}
use Rattle.number_map.proofs.map.NumberMap.take.Goals as goal

pub returns-clause-value : goal.returns-clause-value
returns-clause-value g c = c.remove.ensures.value ∙ sym (get_number c.self.inside.numbers.entries c.args.number) ∙ ap (λ m. finite.get m c.args.number) c.self.view_is

pub returns-clause-gone : goal.returns-clause-gone
returns-clause-gone g c = one_gone c.self.inside.numbers.entries c.remove.new.self.entries c.args.number c.remove.ensures.updates.0 ∙ ap (λ m. finite.remove m c.args.number) c.self.view_is
