use Rattle.std.proofs.Common.{◌≡◌, map, take}
use Rattle.std.specs.List.{flat_map}
use Rattle.run_picture.specs.Seen.{seen_of, causes_seen}
use Rattle.run_picture.proofs.causes.causes_of.Given as goal

abbrev pub invariant-loop-entry : goal.invariant-loop-entry
invariant-loop-entry l = map seen_of l.shapes ≡ flat_map (causes_seen l.scale l.causes) (take l.entry-index l.entries)
