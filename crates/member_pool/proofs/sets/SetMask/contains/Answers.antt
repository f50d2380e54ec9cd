use Rattle.std.proofs.Common.{arith}
use Rattle.member_pool.proofs.Masks.{tested, page_set}
use Rattle.member_pool.proofs.sets.SetMask.contains.Goals as goal

pub returns-then-set-le128 : goal.returns-then-set-le128
returns-then-set-le128 c = tested c.args.self.now c.args.set (page_set c.args.set (omega arith) (omega arith))
