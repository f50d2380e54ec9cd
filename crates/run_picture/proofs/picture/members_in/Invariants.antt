use Rattle.std.proofs.Common.{◌≡◌, take}
use Rattle.std.specs.List.{fold}
use Rattle.run_picture.specs.Places.{with_event, with_entry}
use Rattle.run_picture.proofs.picture.members_in.Given as goal

abbrev pub invariant-loop-entry : goal.invariant-loop-entry
invariant-loop-entry l = l.members ≡ fold with_entry (fold with_event 0 l.events) (take l.entry-index l.entries)
