use Rattle.std.proofs.Common.{◌≡◌, true, drop}
use Rattle.picture_call.specs.Inputs.{report_in}
use Rattle.picture_call.proofs.input.report_place.Given as goal

abbrev pub invariant-loop-at : goal.invariant-loop-at
invariant-loop-at l = report_in l.is_begin (drop l.at l.bytes) ≡ report_in true l.bytes
