use Rattle.std.proofs.Common.{◌∙◌, sym, ap}
use Rattle.std.specs.FinMap as finite
use Rattle.page_records.proofs.Maps.{get_page, one_gone}
use Rattle.page_records.proofs.map.PageMap.take.Goals as goal

pub returns-clause-value : goal.returns-clause-value
returns-clause-value g c = c.remove.ensures.value ∙ sym (get_page c.self.inside.pages.entries c.args.id) ∙ ap (λ m. finite.get m c.args.id) c.self.view_is

pub returns-clause-gone : goal.returns-clause-gone
returns-clause-gone g c = one_gone c.self.inside.pages.entries c.remove.new.self.entries c.args.id c.remove.ensures.updates.0 ∙ ap (λ m. finite.remove m c.args.id) c.self.view_is
