use Rattle.std.proofs.Common.{arith}
use Rattle.torn_records.specs.Fronts.{IsSystemOf}
use Rattle.torn_records.proofs.Telling.{told_all, none_more, none_was}
use Rattle.torn_records.proofs.system.is_front_of_size.Goals as goal

pub loop-count-preserved : goal.loop-count-preserved
loop-count-preserved c =
    let here = none_was c.args.bytes.now (IsSystemOf c.args.version c.args.size c.loop-count.count) c.is_front_of_patches.result c.in_ok-is_front.is_front (cc) c.if-is_front.false c.is_front_of_patches.ensures in
    none_more c.args.bytes.now (IsSystemOf c.args.version c.args.size) c.loop-count.count c.loop-count.invariant here

pub returns : goal.returns
returns c = told_all c.args.bytes.now (IsSystemOf c.args.version c.args.size) 13 (λ k lt. c.loop-count.invariant k (omega arith))
