use Rattle.std.proofs.Common.{◌∙◌, Some, None}
use Rattle.ds_disk.proofs.FoundPages.{page_found}
use Rattle.ds_disk.proofs.page_map.PageMap.read.Goals as goal

pub returns-in-Some : goal.returns-in-Some
returns-in-Some c = c.copy.ensures ∙ page_found c.self.inside.written.entries c.args.self.now c.args.id (Some c.in-Some.page.now) c.self.view_is c.in-Some.ensures.value

pub returns-in-None : goal.returns-in-None
returns-in-None c = page_found c.self.inside.written.entries c.args.self.now c.args.id None c.self.view_is c.in-None.ensures.value
