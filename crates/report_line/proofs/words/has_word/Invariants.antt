use Rattle.std.proofs.Common.{◌≡◌, length}
use Rattle.std.specs.List.{list_any}
use Rattle.std.specs.Str.{bytes_eq}
use Rattle.report_line.specs.Cuts.{parts_left}
use Rattle.report_line.specs.Reading.{words_of}
use Rattle.report_line.proofs.words.has_word.Given as goal

abbrev pub invariant-loop-rest : goal.invariant-loop-rest
invariant-loop-rest l = list_any (bytes_eq l.word) (parts_left 32 l.rest) ≡ list_any (bytes_eq l.word) (words_of l.words)

abbrev pub decreases-loop-rest : goal.decreases-loop-rest
decreases-loop-rest l = length (parts_left 32 l.rest)
