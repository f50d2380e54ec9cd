use Rattle.std.proofs.Common.{rules}
use Rattle.page_plans.specs.Plans.{entry_of}
use Rattle.page_plans.proofs.Allowing.{insert_as}
use Rattle.page_plans.proofs.systems.insert_patches.Goals as goal

pub returns-clause-allowed : goal.returns-clause-allowed
returns-clause-allowed c = insert_as c.in-Done.patches c.args.page.now (entry_of c.args.key c.args.place) (search rules) c.bytes-bytes.ensures.length c.requires.name c.requires.room
