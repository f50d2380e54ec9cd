use Rattle.std.proofs.Common.{◌+◌, sym, ap, ◌∙◌}
use Rattle.run_spans.specs.Readings.{known_of}
use Rattle.run_spans.specs.Runs.{seat_failed}
use Rattle.run_spans.proofs.Failing.{seats_none, seats_more}
use Rattle.run_spans.proofs.seat_moves.fail_seats.Goals as goal

pub loop-before-init : goal.loop-before-init
loop-before-init c = sym (seats_none c.args.at.now (known_of c.args.reading.now))

pub loop-before-preserved : goal.loop-before-preserved
loop-before-preserved c =
    c.in_ok-fail_seat.ensures
    ∙ ap (seat_failed c.args.at.now (c.loop-before.before + 1)) c.loop-before.invariant
    ∙ sym (seats_more c.args.at.now c.loop-before.before (known_of c.args.reading.now))
