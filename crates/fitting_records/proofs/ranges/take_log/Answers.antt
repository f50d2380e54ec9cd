use Rattle.std.proofs.Common.{List, refl}
use Rattle.ds_model.specs.declared.log.LogRecord.{LogRecord}
use Rattle.disk_walk.proofs.One.{walk_starts, walk_more, walk_ends, sound_start, sound_some}
use Rattle.fitting_records.specs.Ranges.{range_from}
use Rattle.fitting_records.proofs.Rangeon.{take_more, walked_all}
use Rattle.fitting_records.proofs.ranges.take_log.Goals as goal

pub loop-init : goal.loop-init
loop-init g c = (walk_starts (range_from c.args.member) _ _ c.args.member c.args.end c.new-head.result c.args.seen.now c.new-head.ensures, sound_start c.args.end c.new-head.result c.new-head.ensures)

pub loop-preserved : goal.loop-preserved
loop-preserved g c = (
  walk_more (range_from c.args.member) _ _ _ _ _ _ c.args.member c.args.end c.args.seen.now c.loop.head c.next_of_log.new.head c.loop.seen c.take.new.self c.in_ok-next_of_log.field-0 c.in-Some.it c.in-Some.is
      (λ (rest : List LogRecord). take_more c.args.member c.loop.seen c.take.new.self c.loop.head.at c.at-at.result c.in-Some.it rest c.at-at.ensures c.in_ok-take-in-Some.ensures) c.loop.invariant.0 c.in_ok-next_of_log.ensures.next,
  sound_some c.next_of_log.new.head c.in_ok-next_of_log.field-0 c.in-Some.it c.in-Some.is c.in_ok-next_of_log.ensures.sound,
)

pub returns-in-None : goal.returns-in-None
returns-in-None g c =
    walked_all c.args.member c.args.end c.args.seen.now c.loop.seen _
    (walk_ends (range_from c.args.member) _ _ _ _ _ _ c.args.member c.args.end c.args.seen.now c.loop.head c.next_of_log.new.head c.loop.seen c.in_ok-next_of_log.field-0 c.loop.seen c.in-None.is refl c.loop.invariant.0 c.in_ok-next_of_log.ensures.next)
