use Rattle.std.proofs.Common.{List, [], ◌∷◌, ◌++◌, sym, ap, ◌∙◌}
use Rattle.page_format.specs.declared.patch.Patch.{Patch}
use Rattle.heap_space.specs.Changes.{front_patch}
use Rattle.heap_space.proofs.Fronts.{front_there}
use Rattle.heap_space.proofs.change.push_front.Goals as goal

pub returns-in_ok-push : goal.returns-in_ok-push
returns-in_ok-push c =
    let old = c.args.patches.now in
    c.in_ok-push.ensures.ok
    ∙ ap (λ (patch : Patch). old ++ patch ∷ []) (c.in_ok-front_patch.ensures ∙ ap (front_patch 2) c.heap_page.ensures)
    ∙ ap (λ (patches : List Patch). old ++ patches) (sym (front_there c.args.table c.args.place c.if-place-eq0.true))
