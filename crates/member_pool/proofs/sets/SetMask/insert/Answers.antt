use Rattle.std.proofs.Common.{arith}
use Rattle.member_pool.proofs.Masks.{put_in}
use Rattle.member_pool.proofs.sets.SetMask.insert.Goals as goal

pub returns-then-set-le128 : goal.returns-then-set-le128
returns-then-set-le128 c = λ s. put_in c.args.self.now c.args.set s (omega arith) (omega arith)
