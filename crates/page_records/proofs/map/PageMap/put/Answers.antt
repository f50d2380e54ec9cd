use Rattle.std.proofs.Common.{◌∙◌, ap}
use Rattle.std.specs.FinMap as finite
use Rattle.page_records.proofs.Maps.{one_set}
use Rattle.page_records.proofs.map.PageMap.put.Goals as goal

pub returns : goal.returns
returns g c = one_set c.self.inside.pages.entries c.insert.new.self.entries c.args.id c.args.value c.in_ok-insert.ensures.updates.0 ∙ ap (λ m. finite.insert m c.args.id c.args.value) c.self.view_is
