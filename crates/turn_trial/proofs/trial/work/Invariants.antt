use Rattle.std.proofs.Common.{◌≡◌, ◌≤◌}
use Rattle.turn_trial.specs.Recorded.{Counts, firsts}
use Rattle.turn_trial.proofs.trial.work.Given as goal

abbrev pub invariant-loop-i : goal.invariant-loop-i
invariant-loop-i g l =
    (l.seat.turn ≡ l.fn.turn.id) × (l.seat.knows.caller ≡ l.fn.caller) × Counts l.fn.caller l.part l.seat.knows.seen × (l.seat.knows.own ≡ firsts l.fn.caller l.i) × (l.i ≤ l.fn.count)
