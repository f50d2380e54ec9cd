use Rattle.std.proofs.Common.{List, ℕ, ap, ◌∙◌, arith}
use Rattle.heap_space.specs.Written.{written}
use Rattle.page_images.specs.Images.{after_change}
use Rattle.page_chain.specs.Chains.{images_of}
use Rattle.stood_rows.proofs.Owned.{heap_stay}
use Rattle.stood_rows.proofs.parts.stay_on_page.Goals as goal

pub returns : goal.returns
returns c =
    let at = images_of c.args.made.now.records in
    heap_stay at (after_change c.args.lrsn c.args.patches.now at) c.args.id c.in_ok-page.page c.in_ok-behind.behind c.owners_stay.result c.requires.set.0 c.requires.set.1 (λ e. omega (arith, e)) c.in_ok-page.ensures
    (c.in_ok-behind.ensures ∙ ap (λ (page : List ℕ). written c.args.id c.args.lrsn c.args.patches.now page) c.in_ok-page.ensures)
    c.owners_stay.ensures
