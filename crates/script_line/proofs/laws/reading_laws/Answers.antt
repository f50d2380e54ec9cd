-- Each reader of words gives what is in range.
use Rattle.script_line.proofs.Said.{read_is_in_range, read_has_its_keyword}
use Rattle.script_line.proofs.laws.reading_laws.Goals as goal

pub returns-clause-range : goal.returns-clause-range
returns-clause-range c = read_is_in_range

pub returns-clause-keyword : goal.returns-clause-keyword
returns-clause-keyword c = read_has_its_keyword
