use Rattle.std.proofs.Common.{◌≡◌, take}
use Rattle.std.specs.List.{fold}
use Rattle.run_picture.specs.Places.{with_event}
use Rattle.run_picture.proofs.picture.members_in_events.Given as goal

abbrev pub invariant-loop-event : goal.invariant-loop-event
invariant-loop-event l = l.members ≡ fold with_event 0 (take l.event-index l.events)
