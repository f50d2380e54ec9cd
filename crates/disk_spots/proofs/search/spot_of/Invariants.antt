use Rattle.std.proofs.Common.{◌≡◌, drop}
use Rattle.disk_spots.specs.Spots.{spot_of}
use Rattle.disk_spots.proofs.search.spot_of.Given as goal

abbrev pub invariant-loop-log : goal.invariant-loop-log
invariant-loop-log l = spot_of l.number (drop l.log-index l.logs) ≡ spot_of l.number l.logs
