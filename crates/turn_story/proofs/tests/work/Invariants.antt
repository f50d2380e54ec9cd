use Rattle.std.proofs.Common.{◌≡◌, ◌%◌, ◌≤◌}
use Rattle.turn_story.specs.Desks.{IsAt}
use Rattle.turn_story.proofs.tests.work.Given as goal

abbrev pub invariant-loop-i : goal.invariant-loop-i
invariant-loop-i g l =
    (l.desk.seat.knows.caller ≡ l.fn.caller) × IsAt (λ event. event % 64) l.fn.turn.id l.fn.turn.start l.desk.seat l.desk.part × (l.i ≤ l.fn.count)
