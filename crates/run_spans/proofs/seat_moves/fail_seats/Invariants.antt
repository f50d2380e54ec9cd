use Rattle.std.proofs.Common.{◌≡◌}
use Rattle.run_spans.specs.Readings.{known_of}
use Rattle.run_spans.specs.Runs.{seats_failed}
use Rattle.run_spans.proofs.seat_moves.fail_seats.Given as goal

abbrev pub invariant-loop-before : goal.invariant-loop-before
invariant-loop-before l = known_of l.reading ≡ seats_failed l.at l.before (known_of l.fn.reading)
