use Rattle.std.proofs.Common.{◌∙◌, ap}
use Rattle.std.specs.FinMap as map
use Rattle.ds_disk.specs.Pages.{Pages}
use Rattle.ds_disk.proofs.FoundPages.{one_written}
use Rattle.ds_disk.proofs.page_map.PageMap.write.Goals as goal

pub returns-clause-ok : goal.returns-clause-ok
returns-clause-ok c =
    one_written c.self.inside.written.entries c.insert.new.self.entries c.args.id c.in_ok-page.page c.in_ok-insert.ensures.updates.0
    ∙ ap (λ (m : Pages). map.insert m c.args.id c.in_ok-page.page) c.self.view_is
    ∙ ap (λ page. map.insert c.args.self.now c.args.id page) c.in_ok-page.ensures
