-- The words of a canonical text say its line.
use Rattle.script_line.proofs.Canonical.{text_is_read, keyword_of_text, text_is_printed}
use Rattle.script_line.proofs.laws.canonical_text_laws.Goals as goal

pub returns-clause-read : goal.returns-clause-read
returns-clause-read c = text_is_read

pub returns-clause-keyword : goal.returns-clause-keyword
returns-clause-keyword c = keyword_of_text

pub returns-clause-printed : goal.returns-clause-printed
returns-clause-printed c = text_is_printed
