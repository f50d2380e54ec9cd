use Rattle.std.proofs.Common.{List, ℕ, sym, ap, subst, ◌∙◌}
use Rattle.page_records.specs.declared.places.PageRecords.{PageRecords}
use Rattle.page_versions.specs.Own.{Rise, places_at, version_at}
use Rattle.page_versions.proofs.Search.{rise}
use Rattle.page_versions.proofs.Touching.{version_by_page}
use Rattle.page_versions.proofs.places.apply_all.Goals as goal

pub places_at-requires : goal.places_at-requires
places_at-requires c = subst Rise (sym c.requires.changed_pages) (rise c.args.records.now)

pub returns : goal.returns
returns c =
    c.apply_each.ensures
    ∙ ap (λ (ns : List ℕ). version_at c.args.id c.args.records.now c.args.page.now ns) (c.places_at.ensures ∙ ap (λ (ps : List PageRecords). places_at c.args.id ps) c.requires.changed_pages)
    ∙ version_by_page c.chain_laws.ensures.others c.args.id c.args.records.now c.args.page.now
