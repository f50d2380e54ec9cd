use Rattle.std.proofs.Common.{◌≡◌, ℕ, List, ap, ◌∙◌}
use Rattle.page_records.specs.declared.places.PageRecords.{PageRecords}
use Rattle.page_redo.specs.Forward.{Forward, brought_forward}
use Rattle.page_versions.specs.Own.{places_at}
use Rattle.places_redo.specs.Picked.{brought_at}
use Rattle.copy_recover.proofs.Own.{brought_all}
use Rattle.copy_recover.proofs.pages.bring.Goals as goal

pub returns : goal.returns
returns c =
    let same : brought_at c.args.id c.args.page.now c.args.records.now c.places_at.result.now ≡ brought_forward c.args.id c.args.page.now c.args.records.now =
    ap (λ (ns : List ℕ). brought_at c.args.id c.args.page.now c.args.records.now ns) (c.places_at.ensures ∙ ap (λ (ps : List PageRecords). places_at c.args.id ps) c.requires)
    ∙ brought_all c.forward_laws.ensures.own c.args.id c.args.page.now c.args.records.now
    in
    record { outcome = c.bring_places.ensures.outcome ∙ ap (λ (f : Forward). f.outcome) same; page = c.bring_places.ensures.page ∙ ap (λ (f : Forward). f.page) same }
