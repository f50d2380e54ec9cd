use Rattle.checkpoint_reader.proofs.Standing.{nothing_stands, replies_stand, read_last}
use Rattle.checkpoint_reader.proofs.laws.reader_laws.Goals as goal

pub returns-clause-nothing : goal.returns-clause-nothing
returns-clause-nothing c = λ log member r is. nothing_stands c.reader_laws.ensures.nothing log member r is

pub returns-clause-replies : goal.returns-clause-replies
returns-clause-replies c = λ log r x whole told s.
    replies_stand c.whole_laws.ensures.size c.reading_laws.ensures.again c.whole_laws.ensures.front c.whole_laws.ensures.goes c.whole_laws.ensures.ends c.whole_laws.ensures.bad c.whole_laws.ensures.empty
    c.reader_laws.ensures.beginning c.search_laws.ensures.step c.search_laws.ensures.told c.search_laws.ensures.filled c.search_laws.ensures.before c.reader_laws.ensures.keeping c.reader_laws.ensures.grown
    log r x whole told s

pub returns-clause-last : goal.returns-clause-last
returns-clause-last c = λ bytes r log s all is. read_last c.reader_laws.ensures.last bytes r log s all is
