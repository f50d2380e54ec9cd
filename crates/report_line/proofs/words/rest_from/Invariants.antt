use Rattle.std.proofs.Common.{◌≡◌, drop}
use Rattle.report_line.specs.Cuts.{parts_left}
use Rattle.report_line.specs.Reading.{words_of}
use Rattle.report_line.proofs.words.rest_from.Given as goal

abbrev pub invariant-loop : goal.invariant-loop
invariant-loop l = parts_left 32 l.rest ≡ drop l.counter (words_of l.line)
