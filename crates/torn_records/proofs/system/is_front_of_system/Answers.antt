use Rattle.std.proofs.Common.{arith}
use Rattle.torn_records.specs.Fronts.{IsSystemIn}
use Rattle.torn_records.proofs.Telling.{told_all, none_more, none_was}
use Rattle.torn_records.proofs.system.is_front_of_system.Goals as goal

pub loop-size-preserved : goal.loop-size-preserved
loop-size-preserved c =
    let here = none_was c.args.bytes.now (IsSystemIn c.args.version c.loop-size.size) c.is_front_at.result c.in_ok-is_front.is_front (cc) c.if-is_front.false c.is_front_at.ensures in
    none_more c.args.bytes.now (IsSystemIn c.args.version) c.loop-size.size c.loop-size.invariant here

pub returns : goal.returns
returns c = told_all c.args.bytes.now (IsSystemIn c.args.version) 16385 (λ k lt. c.loop-size.invariant k (omega arith))
