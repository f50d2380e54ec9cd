use Rattle.std.proofs.Common.{rules}
use Rattle.page_plans.proofs.Allowing.{split_as}
use Rattle.page_plans.proofs.systems.split_patches.Goals as goal

pub returns-clause-allowed : goal.returns-clause-allowed
returns-clause-allowed c =
    split_as c.append-2.new.patches c.args.header.now c.args.left.now c.args.next (search rules) c.requires.header c.bytes-bytes.ensures.length c.requires.name c.ranges.next.fits
