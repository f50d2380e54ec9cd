use Rattle.std.proofs.Common.{◌≡◌, take}
use Rattle.std.specs.List.{fold}
use Rattle.run_spans.specs.Places.{nowhere, place_in}
use Rattle.run_picture.specs.Reaching.{failed_by}
use Rattle.run_picture.proofs.picture.failures_of.Given as goal

abbrev pub invariant-loop-event : goal.invariant-loop-event
invariant-loop-event l = place_in l.failed ≡ fold failed_by nowhere (take l.event-index l.events)
