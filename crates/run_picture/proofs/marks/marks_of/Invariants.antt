use Rattle.std.proofs.Common.{◌≡◌, map, take}
use Rattle.std.specs.List.{flat_map}
use Rattle.run_picture.specs.Seen.{seen_of, marks_seen}
use Rattle.run_picture.proofs.marks.marks_of.Given as goal

abbrev pub invariant-loop-event : goal.invariant-loop-event
invariant-loop-event l = map seen_of l.shapes ≡ flat_map (marks_seen l.scale l.of_phases) (take l.event-index l.events)
