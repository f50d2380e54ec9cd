use Rattle.disk_walk.proofs.Begins.{within_32, begin_if}
use Rattle.disk_walk.proofs.begin.heads_to.Goals as goal

pub new-requires-clause-within : goal.new-requires-clause-within
new-requires-clause-within c = within_32 c.args.ends.now

pub returns-clause-begin : goal.returns-clause-begin
returns-clause-begin c = begin_if c.reading_laws.ensures.again c.whole_laws.ensures.empty c.whole_laws.ensures.none c.whole_laws.ensures.first c.args.ends.now c.args.block c.new.result c.requires.ends c.new.ensures
