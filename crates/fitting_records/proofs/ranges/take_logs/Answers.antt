use Rattle.std.proofs.Common.{◌+◌, List, refl, arith}
use Rattle.ds_model.specs.declared.log.LogRecord.{LogRecord}
use Rattle.log_record.specs.declared.log.Log.{Log}
use Rattle.disk_walk.proofs.Whole.{logs_more, logs_end}
use Rattle.fitting_records.specs.Ranges.{nothing_in, range_among}
use Rattle.fitting_records.specs.Ranging.{IsRangedFrom}
use Rattle.fitting_records.proofs.Members.{member_is}
use Rattle.fitting_records.proofs.Rangeon.{log_ranged, ranged_start}
use Rattle.fitting_records.proofs.ranges.take_logs.Goals as goal

pub loop-index-init : goal.loop-index-init
loop-index-init g c = ranged_start _ _ c.args.ends.now c.args.range c.new-seen.result c.new-seen.ensures

pub loop-index-preserved : goal.loop-index-preserved
loop-index-preserved g c =
    let member = member_is c.new.result (c.loop-index.index + 1) c.in-Some.member c.new.ensures (cc) in
    logs_more range_among c.whole_laws.ensures.parts c.log_laws.ensures.read _ _ _ _ _ _ c.args.ends.now c.loop-index.index c.in-Some.member _ (nothing_in c.args.range) c.loop-index.seen c.leave.new.self
    (λ _ (rs : List LogRecord). IsRangedFrom c.in-Some.member c.loop-index.seen c.take_log.new.seen rs) _ c.requires.ends (omega arith) member refl
    (λ (log : Log) (rest : List Log) is holds. log_ranged c.in-Some.member c.loop-index.seen c.take_log.new.seen c.leave.new.self log rest c.leave.ensures is holds) c.loop-index.invariant c.in_ok-take_log.ensures

pub returns : goal.returns
returns g c = logs_end range_among _ _ _ _ c.args.ends.now c.loop-index.index (nothing_in c.args.range) c.loop-index.seen c.loop-index.seen c.requires.ends (omega arith) refl c.loop-index.invariant
