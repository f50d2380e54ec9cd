use Rattle.std.proofs.Common.{◌≡◌, ◌+◌, ◌*◌, ◌≤◌, length, drop}
use Rattle.group_core.specs.Events.{events_from}
use Rattle.group_core.proofs.Listed.{left_ready}
use Rattle.group_core.proofs.schedule.count_events.Given as goal

abbrev pub invariant-loop-part : goal.invariant-loop-part
invariant-loop-part g l =
    (l.count + length (events_from (l.part-index + 1) (left_ready (drop l.part-index l.parts))) ≡ length (events_from 1 (left_ready l.parts)))
    × (l.count ≤ 23 * l.part-index)
