use Rattle.std.proofs.Common.{◌∙◌}
use Rattle.redone_pages.proofs.Kept.{blank}
use Rattle.redone_pages.proofs.made.RedonePages.image.Goals as goal

pub returns-in_ok-zero-in-None : goal.returns-in_ok-zero-in-None
returns-in_ok-zero-in-None c = c.in_ok-zero-in-None.ensures ∙ blank ∙ c.in-None.ensures
