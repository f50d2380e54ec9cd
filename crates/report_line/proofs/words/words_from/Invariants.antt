use Rattle.std.proofs.Common.{◌≡◌, ◌++◌, drop, length}
use Rattle.report_line.specs.Cuts.{parts_left}
use Rattle.report_line.specs.Reading.{words_of}
use Rattle.report_line.proofs.words.words_from.Given as goal

abbrev pub invariant-loop-rest : goal.invariant-loop-rest
invariant-loop-rest l = l.found ++ parts_left 32 l.rest ≡ drop l.at (words_of l.line)

abbrev pub decreases-loop-rest : goal.decreases-loop-rest
decreases-loop-rest l = length (parts_left 32 l.rest)
