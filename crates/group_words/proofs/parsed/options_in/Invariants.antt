use Rattle.std.proofs.Common.{◌≡◌}
use Rattle.clap.specs.Matches.{ids_left}
use Rattle.clap.specs.Words.{found_of, rows_of}
use Rattle.group_words.specs.Parsed as spec
use Rattle.group_words.proofs.Found.{behind_found}
use Rattle.group_words.proofs.parsed.options_in.Given as goal

abbrev pub invariant-loop-name : goal.invariant-loop-name
invariant-loop-name l = behind_found l.given.items (rows_of (found_of l.fn.matches)) (ids_left l.name-iterator) ≡ spec.parsed (rows_of (found_of l.fn.matches))
