use Rattle.redone_pages.proofs.Taken.{none_redone}
use Rattle.redone_pages.proofs.made.RedonePages.new.Goals as goal

pub invariant_of-result : goal.invariant_of-result
invariant_of-result c = none_redone c.args.range c.new.result.entries 129 c.new-2.result.items c.new.ensures.empty c.new-2.ensures
