use Rattle.std.proofs.Common.{arith}
use Rattle.torn_records.specs.Fronts.{HasStateBefore}
use Rattle.torn_records.proofs.Telling.{told_all, none_more, none_was}
use Rattle.torn_records.proofs.change.is_front_of_changes.Goals as goal

pub loop-before-preserved : goal.loop-before-preserved
loop-before-preserved c =
    let here = none_was c.args.bytes.now (HasStateBefore c.args.version c.loop-before.before) c.is_front_with_before.result c.in_ok-is_front.is_front (cc) c.if-is_front.false c.is_front_with_before.ensures in
    none_more c.args.bytes.now (HasStateBefore c.args.version) c.loop-before.before c.loop-before.invariant here

pub returns : goal.returns
returns c = told_all c.args.bytes.now (HasStateBefore c.args.version) 102 (λ k lt. c.loop-before.invariant k (omega arith))
