use Rattle.std.proofs.Common.{◌≡◌, ℕ, List, ◌∙◌, sym, ap}
use Rattle.std.specs.Vec.{vec_items}
use Rattle.std.specs.FinMap as finite
use Rattle.std.proofs.lemmas.Result.{IfOk-at_ok}
use Rattle.std.proofs.lemmas.Iterator.{items_from_collect}
use Rattle.std.proofs.lemmas.Iterator.Consumers.{YieldsList-from_rest}
use Rattle.number_map.proofs.Maps.{kept}
use Rattle.number_map.proofs.map.NumberMap.into_list.Goals as goal

pub returns : goal.returns
returns g c =
    let es = c.self.inside.numbers.entries in
    let gives = items_from_collect _ c.collect.ensures.ran (YieldsList-from_rest es c.into_iter.ensures.into_iter_gives.0) in
    let collected = IfOk-at_ok (λ w. vec_items w ≡ es) c.in_ok-list.was gives in
    c.from_vec.ensures ∙ collected ∙ sym (kept es c.into_iter.ensures.into_iter_gives.5) ∙ ap (λ m. finite.entries m) c.self.view_is
