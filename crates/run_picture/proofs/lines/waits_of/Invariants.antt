use Rattle.std.proofs.Common.{◌≡◌, map, take}
use Rattle.std.specs.List.{flat_map}
use Rattle.run_picture.specs.Seen.{seen_of, waits_seen}
use Rattle.run_picture.proofs.lines.waits_of.Given as goal

abbrev pub invariant-loop-wait : goal.invariant-loop-wait
invariant-loop-wait l = map seen_of l.shapes ≡ flat_map (waits_seen l.scale) (take l.wait-index l.waits)
