use Rattle.std.proofs.Common.{◌≡◌, take}
use Rattle.std.specs.List.{fold}
use Rattle.run_story.specs.Facts.{failed_by}
use Rattle.run_story.proofs.named.failure_before.Given as goal

abbrev pub invariant-loop-event : goal.invariant-loop-event
invariant-loop-event l = l.failure ≡ fold (failed_by l.member l.place) 0 (take l.event-index l.events)
