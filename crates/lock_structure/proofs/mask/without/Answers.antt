use Rattle.lock_structure.proofs.Masks.{taken_from_mask}
use Rattle.lock_structure.proofs.mask.without.Goals as goal

pub returns : goal.returns
returns c k h = taken_from_mask c.args.mask c.number.result c.args.member k c.number.ensures.value c.number.ensures.range h
