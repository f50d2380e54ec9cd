use Rattle.std.proofs.Common.{◌≡◌, length}
use Rattle.report_text.specs.Steps.{report_from, report_of, lines_in}
use Rattle.report_text.proofs.read.reading.Given as goal

abbrev pub invariant-loop-text : goal.invariant-loop-text
invariant-loop-text l = report_from l.number l.draft (lines_in l.rest) ≡ report_of l.bytes

abbrev pub decreases-loop-text : goal.decreases-loop-text
decreases-loop-text l = length l.rest
