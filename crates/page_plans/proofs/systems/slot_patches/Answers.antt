use Rattle.std.proofs.Common.{rules}
use Rattle.page_plans.proofs.Allowing.{slot_as}
use Rattle.page_plans.proofs.systems.slot_patches.Goals as goal

pub returns-clause-allowed : goal.returns-clause-allowed
returns-clause-allowed c =
    slot_as c.append.new.patches c.args.table c.args.key c.args.place c.args.leaf.now (search rules) c.number-number.ensures.range c.requires.place c.bytes-bytes.ensures.length c.requires.name c.requires.room
