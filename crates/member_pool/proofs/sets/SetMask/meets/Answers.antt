use Rattle.std.proofs.Common.{arith}
use Rattle.member_pool.proofs.Masks.{meets_is}
use Rattle.member_pool.proofs.sets.SetMask.meets.Goals as goal

pub returns : goal.returns
returns c = meets_is c.args.self.now c.args.other.now (omega arith)
