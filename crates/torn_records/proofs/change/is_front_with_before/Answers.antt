use Rattle.std.proofs.Common.{arith}
use Rattle.torn_records.specs.Fronts.{IsChangeIn}
use Rattle.torn_records.proofs.Telling.{told_all}
use Rattle.torn_records.proofs.change.is_front_with_before.Goals as goal

pub returns : goal.returns
returns c = told_all c.args.bytes.now (λ k. IsChangeIn c.args.version c.args.before k) 102 (λ k lt. c.loop-after.invariant k (omega arith))
