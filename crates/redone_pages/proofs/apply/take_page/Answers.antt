use Rattle.std.proofs.Common.{◌∙◌, sym}
use Rattle.redone_pages.proofs.Kept.{lacking}
use Rattle.redone_pages.proofs.apply.take_page.Goals as goal

pub returns-in_ok-zero-in-None-clause-page : goal.returns-in_ok-zero-in-None-clause-page
returns-in_ok-zero-in-None-clause-page c =
    lacking c.args.pages.now.entries c.args.id c.in_ok-zero-in-None.field-0 (sym c.in-None.is ∙ c.remove.ensures.value) c.in_ok-zero-in-None.ensures
