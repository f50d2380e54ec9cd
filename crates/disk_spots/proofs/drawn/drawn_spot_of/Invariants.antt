use Rattle.std.proofs.Common.{◌≡◌, drop}
use Rattle.disk_spots.specs.Spots.{drawn_spot_of}
use Rattle.disk_spots.proofs.drawn.drawn_spot_of.Given as goal

abbrev pub invariant-loop-log : goal.invariant-loop-log
invariant-loop-log l = drawn_spot_of l.number (drop l.log-index l.logs) ≡ drawn_spot_of l.number l.logs
