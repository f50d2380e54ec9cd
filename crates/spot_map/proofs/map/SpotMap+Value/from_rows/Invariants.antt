use Rattle.std.proofs.Common.{◌≡◌}
use Rattle.spot_map.proofs.Lists.{so_far}
use Rattle.spot_map.proofs.map.SpotMap+Value.from_rows.Given as goal

abbrev pub invariant-loop-row : goal.invariant-loop-row
invariant-loop-row l = l.map ≡ so_far l.row-items l.row-index
