use Rattle.std.proofs.Common.{◌≡◌, map, take}
use Rattle.run_picture.specs.Seen.{lane_seen}
use Rattle.run_picture.proofs.marks.lanes_of.Given as goal

abbrev pub invariant-loop-lane : goal.invariant-loop-lane
invariant-loop-lane l = map lane_seen l.shapes ≡ take l.lane-index l.lanes
