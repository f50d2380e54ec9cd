use Rattle.log_reader.proofs.Keeping.{nothing_is, beginning_is, keeping_is, grown_is, read_last}
use Rattle.log_reader.proofs.Noting.{nothing_noted, grown_noted, old_noted}
use Rattle.log_reader.proofs.laws.reader_laws.Goals as goal

pub returns-clause-nothing : goal.returns-clause-nothing
returns-clause-nothing c = λ log keeps_all. nothing_is c.reading_laws.ensures.found c.whole_laws.ensures.first c.whole_laws.ensures.none log keeps_all

pub returns-clause-beginning : goal.returns-clause-beginning
returns-clause-beginning c = λ log place within whole. beginning_is c.reading_laws.ensures.found c.whole_laws.ensures.first c.whole_laws.ensures.none log place within whole

pub returns-clause-grown : goal.returns-clause-grown
returns-clause-grown c = λ log h block n is are within next. grown_is c.reading_laws.ensures.found c.whole_laws.ensures.first c.whole_laws.ensures.none log h block n is are within next

pub returns-clause-keeping : goal.returns-clause-keeping
returns-clause-keeping c = λ log h keeps_all is. keeping_is c.reading_laws.ensures.found c.whole_laws.ensures.first c.whole_laws.ensures.none log h keeps_all is

pub returns-clause-last : goal.returns-clause-last
returns-clause-last c = λ bytes r log is whole read. read_last c.reading_laws.ensures.again c.whole_laws.ensures.goes bytes r log is whole read

pub returns-clause-nothing_noted : goal.returns-clause-nothing_noted
returns-clause-nothing_noted c =
    nothing_noted c.reading_laws.ensures.again c.whole_laws.ensures.first c.whole_laws.ensures.none c.whole_laws.ensures.empty c.reading_laws.ensures.found

pub returns-clause-keeping_noted : goal.returns-clause-keeping_noted
returns-clause-keeping_noted c = λ log h keeps_all noted. noted

pub returns-clause-grown_noted : goal.returns-clause-grown_noted
returns-clause-grown_noted c =
    grown_noted c.reading_laws.ensures.again c.whole_laws.ensures.first c.whole_laws.ensures.none c.whole_laws.ensures.empty c.reading_laws.ensures.found

pub returns-clause-old_noted : goal.returns-clause-old_noted
returns-clause-old_noted c =
    old_noted c.reading_laws.ensures.again c.whole_laws.ensures.first c.whole_laws.ensures.none c.whole_laws.ensures.empty c.reading_laws.ensures.found c.whole_laws.ensures.goes c.whole_laws.ensures.parts
