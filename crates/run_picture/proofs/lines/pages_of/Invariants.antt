use Rattle.std.proofs.Common.{◌≡◌, map, take}
use Rattle.std.specs.List.{flat_map}
use Rattle.run_picture.specs.Seen.{seen_of, pages_seen}
use Rattle.run_picture.proofs.lines.pages_of.Given as goal

abbrev pub invariant-loop-page : goal.invariant-loop-page
invariant-loop-page l = map seen_of l.shapes ≡ flat_map (pages_seen l.scale) (take l.page-index l.pages)
