use Rattle.std.proofs.Common.{◌≡◌, ◌+◌, drop, slice_get}
use Rattle.group_core.specs.Events.{events_from}
use Rattle.group_core.proofs.Listed.{left_ready}
use Rattle.group_core.proofs.schedule.nth_event.Given as goal

abbrev pub invariant-loop-at : goal.invariant-loop-at
invariant-loop-at g l = slice_get (events_from (l.at + 1) (left_ready (drop l.at l.parts))) l.left ≡ slice_get (events_from 1 (left_ready l.parts)) l.n
