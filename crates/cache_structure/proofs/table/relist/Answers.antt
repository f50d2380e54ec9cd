use Rattle.cache_structure.proofs.Listing.{still_listed}
use Rattle.cache_structure.proofs.table.relist.Goals as goal

pub returns-in-Some-Some-clause-pages : goal.returns-in-Some-Some-clause-pages
returns-in-Some-Some-clause-pages c =
    still_listed c.args.changed.now c.args.before c.args.after c.in-Some-Some.field-0-0 c.in-Some-Some.field-0-1 c.in-Some-Some.is-0 c.in-Some-Some.is-1
    (c.requires.same c.in-Some-Some.field-0-0 c.in-Some-Some.field-0-1 c.in-Some-Some.is-0 c.in-Some-Some.is-1) (c.requires.there c.in-Some-Some.field-0-0 c.in-Some-Some.is-0)
