use Rattle.std.proofs.Common.{List, sym, ap, subst, ◌∙◌}
use Rattle.page_records.specs.declared.places.PageRecords.{PageRecords}
use Rattle.page_versions.specs.Own.{Rise, places_at, is_from_at}
use Rattle.page_versions.proofs.Fronts.{told}
use Rattle.page_versions.proofs.Search.{rise}
use Rattle.page_versions.proofs.Touching.{from_by_page}
use Rattle.page_versions.proofs.front.is_version.Goals as goal

pub is_from-requires-clause-rise : goal.is_from-requires-clause-rise
is_from-requires-clause-rise c = subst Rise (sym c.requires.changed_pages) (rise c.args.records.now)

pub returns : goal.returns
returns c =
    told c.args.id c.args.page.now c.in_ok-image.image c.args.records.now c.is_from.result c.in_ok-image.ensures
    (c.is_from.ensures
    ∙ ap (λ (ps : List PageRecords). is_from_at c.args.id c.args.records.now c.args.page.now c.in_ok-image.image (places_at c.args.id ps)) c.requires.changed_pages
    ∙ from_by_page c.chain_laws.ensures.others c.args.id c.args.records.now c.args.page.now c.in_ok-image.image)
