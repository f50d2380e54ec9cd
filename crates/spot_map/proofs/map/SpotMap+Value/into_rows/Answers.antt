use Rattle.std.proofs.Common.{◌≡◌, ℕ, List, ◌∙◌, sym, ap, subst, map, rules}
use Rattle.std.specs.Vec.{vec_items}
use Rattle.std.proofs.lemmas.Result.{IfOk-at_ok}
use Rattle.std.proofs.lemmas.Iterator.{items_from_collect, YieldsList-from_map}
use Rattle.std.proofs.lemmas.Iterator.Consumers.{YieldsList-at, YieldsList-from_rest}
use borrow.Author.Tests.{tests}
use Rattle.ds_base.specs.declared.row.Row.{Row}
use Rattle.ds_model.specs.Rows.{Spot, AreSorted, listed}
use Rattle.spot_map.proofs.Lists.{in_order}
use Rattle.spot_map.proofs.Spots.{kept}
use Rattle.spot_map.proofs.map.SpotMap+Value.into_rows.Goals as goal

pub returns-clause-rows : goal.returns-clause-rows
returns-clause-rows c =
    let row : Spot × List ℕ → Row = λ e. record { table = e.0.0; key = e.0.1; value = e.1 } in
    let gives = items_from_collect _ c.collect.ensures.ran (YieldsList-from_map _ row (YieldsList-at c.map.ensures.source (YieldsList-from_rest c.self.inside.spots.entries c.into_iter.ensures.into_iter_gives.0)) c.map.ensures.closure (λ x r q k. search (rules, tests))) in
    let collected : vec_items c.in_ok-rows.rows ≡ map row c.self.inside.spots.entries = IfOk-at_ok (λ w. vec_items w ≡ map row c.self.inside.spots.entries) c.in_ok-rows.was gives in
    c.from_vec.ensures ∙ collected ∙ ap (map row) (sym (kept c.self.inside.spots.entries c.into_iter.ensures.into_iter_gives.5)) ∙ ap listed c.self.view_is

pub returns-clause-in_order : goal.returns-clause-in_order
returns-clause-in_order c = subst AreSorted (sym (returns-clause-rows c)) (in_order c.args.self)
