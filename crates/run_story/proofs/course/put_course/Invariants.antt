use Rattle.std.proofs.Common.{◌≡◌, ◌++◌, take}
use Rattle.std.specs.List.{flat_map}
use Rattle.run_story.specs.Stories.{event_text}
use Rattle.run_story.proofs.course.put_course.Given as goal

abbrev pub invariant-loop-event : goal.invariant-loop-event
invariant-loop-event l = l.out ≡ l.fn.out ++ flat_map (event_text l.told l.span l.places) (take l.event-index l.events)
