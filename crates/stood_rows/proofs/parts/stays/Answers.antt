use Rattle.std.proofs.Common.{sym, ap, ◌∙◌}
use Rattle.page_images.specs.Images.{after_change}
use Rattle.page_chain.specs.Chains.{images_of}
use Rattle.redone_pages.specs.declared.range.TableRange.{TableRange}
use Rattle.redone_pages.specs.Ranges.{has_page}
use Rattle.stood_rows.specs.Owners.{StayOn}
use Rattle.stood_rows.proofs.Scanning.{told_for}
use Rattle.stood_rows.proofs.parts.stays.Goals as goal

pub returns-then-has_page : goal.returns-then-has_page
returns-then-has_page c =
    let at = images_of c.args.made.now.records in
    told_for c.stay_on_page.result (StayOn at (after_change c.args.lrsn c.args.patches.now at) c.args.patch.now.page) (has_page c.args.made.now.range c.args.patch.now.page)
    (sym (ap (λ (r : TableRange). has_page r c.args.patch.now.page) c.range.ensures) ∙ sym c.has_page.ensures.exact ∙ c.if-has_page.true)
    c.stay_on_page.ensures
