use Rattle.std.proofs.Common.{◌≡◌, drop}
use Rattle.std.specs.List.{list_all}
use Rattle.index_places.specs.Placing.{has_place}
use Rattle.index_places.proofs.leaves.all_there.Given as goal

abbrev pub invariant-loop-one : goal.invariant-loop-one
invariant-loop-one l = list_all (has_place l.page) (drop l.one-index l.given) ≡ list_all (has_place l.page) l.given
