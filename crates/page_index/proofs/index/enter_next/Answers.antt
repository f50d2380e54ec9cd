use Rattle.std.proofs.Common.{◌≡◌, ◌≢◌, arith, sym, ap, ◌∙◌, Some}
use Rattle.page_index.specs.Places.{page_at}
use Rattle.page_index.proofs.Leading.{entered, page_read}
use Rattle.page_index.proofs.index.enter_next.Goals as goal

pub returns-in-Some-clause-leads : goal.returns-in-Some-clause-leads
returns-in-Some-clause-leads g c = λ f p lt.
    entered g.T.HoldsPage.page c.args.places.now c.args.names.now c.put.new.names c.args.at c.in-Some.id c.put.ensures.updates c.requires.apart
    (page_read g.T.HoldsPage.page c.args.places.now c.args.at c.index-places-at.result (Some c.in-Some.id) c.requires.there c.index-places-at.is (sym c.in-Some.is ∙ c.page.ensures))
    f p (λ no. c.requires.before f p (omega (arith, lt, no)))

pub returns-in_default-clause-leads : goal.returns-in_default-clause-leads
returns-in_default-clause-leads g c = λ f p lt h.
    let here = page_read g.T.HoldsPage.page c.args.places.now c.args.at c.index-places-at.result c.page.result c.requires.there c.index-places-at.is c.page.ensures in
    let no : f ≢ c.args.at = λ e. c.in_default.not-Some p (sym here ∙ ap (page_at g.T.HoldsPage.page c.args.places.now) (sym e) ∙ h) in
    c.requires.before f p (omega (arith, lt, no)) h
