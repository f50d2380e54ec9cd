use Rattle.lock_structure.proofs.Masks.{put_in_mask}
use Rattle.lock_structure.proofs.mask.with.Goals as goal

pub returns : goal.returns
returns c k h = put_in_mask c.args.mask c.number.result c.args.member k c.number.ensures.value c.number.ensures.range h
