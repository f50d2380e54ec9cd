use Rattle.redone_pages.proofs.Taken.{none_redone, redone_more}
use Rattle.redone_pages.proofs.made.RedonePages.take.Goals as goal

pub invariant_of-self : goal.invariant_of-self
invariant_of-self c =
    redone_more c.self.inside.range c.self.inside.pages.entries c.apply_record.new.pages.entries c.self.inside.lasts c.raise_record.new.lasts c.self.inside.past.items c.and-self-inside.result.items c.args.it.now
    c.self.invariant c.in-Ok.ensures c.raise_record.ensures c.and-self-inside.ensures

pub invariant_of-self-in-Err : goal.invariant_of-self-in-Err
invariant_of-self-in-Err c = none_redone c.self.inside.range c.clear.new.self.entries 129 c.new-self-inside.result.items c.clear.ensures.empty c.new-self-inside.ensures
