use Rattle.std.proofs.Common.{◌-◌, length, take, drop, ap, ◌∙◌}
use Rattle.std.specs.List.{list_all}
use Rattle.index_places.specs.Placing.{has_place}
use Rattle.index_places.proofs.Ranges.{front_passes, rest_is, back_passes}
use Rattle.index_places.proofs.leaves.has_places.Goals as goal

pub returns : goal.returns
returns c =
    c.all_there.ensures
    ∙ back_passes c.args.page.now c.count_within.result (take (length c.args.given.now - c.count_below.result) (drop c.count_below.result c.args.given.now)) c.count_within.ensures.beyond
    ∙ ap (list_all (has_place c.args.page.now)) (rest_is c.count_below.result c.args.given.now)
    ∙ front_passes c.args.page.now c.low_key.result c.count_below.result c.args.given.now c.low_key.ensures c.count_below.ensures.point.0 c.count_below.ensures.bound
