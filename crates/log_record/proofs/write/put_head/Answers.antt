use Rattle.std.proofs.Common.{append_assoc}
use Rattle.log_record.proofs.write.put_head.Goals as goal

pub returns-clause-front : goal.returns-clause-front
returns-clause-front c = rw (c.put_lrsn.ensures.front, c.put_lrsn-at.ensures.front, c.put-at.ensures.front, c.kind_number.ensures) (simp append_assoc)
