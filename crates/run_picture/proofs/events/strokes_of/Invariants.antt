use Rattle.std.proofs.Common.{◌≡◌, map, take}
use Rattle.std.specs.List.{flat_map}
use Rattle.run_picture.specs.Places.{pixels_of, spots_of}
use Rattle.run_picture.specs.Seen.{seen_of, events_seen}
use Rattle.run_picture.proofs.events.strokes_of.Given as goal

abbrev pub invariant-loop-event : goal.invariant-loop-event
invariant-loop-event l = record {
  spots : map (λ s. s.from) l.strokes ≡ flat_map (spots_of l.scale l.lanes) (take l.event-index l.events);
  pixels : map (λ s. s.from.across) l.strokes ≡ flat_map (pixels_of l.scale) (take l.event-index l.events);
  seen : map seen_of l.strokes ≡ flat_map (events_seen l.scale) (take l.event-index l.events);
}
