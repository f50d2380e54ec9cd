use Rattle.std.proofs.Common.{List, Some, None, refl}
use Rattle.ds_model.specs.declared.log.LogRecord.{LogRecord}
use Rattle.disk_walk.proofs.One.{walk_starts, walk_more, walk_stops, walk_ends, sound_start, sound_some}
use Rattle.fitting_records.proofs.Seeking.{places, passes_by, stops_at}
use Rattle.fitting_records.proofs.spots.place_of.Goals as goal

pub loop-init : goal.loop-init
loop-init g c = (walk_starts (places c.args.drawn c.args.number) _ _ c.args.member c.args.end c.new-head.result 0 c.new-head.ensures, sound_start c.args.end c.new-head.result c.new-head.ensures)

pub loop-preserved : goal.loop-preserved
loop-preserved g c = (
  walk_more (places c.args.drawn c.args.number) _ _ _ _ _ _ c.args.member c.args.end 0 c.loop.head c.next_of_log.new.head 0 0 c.in_ok-next_of_log.field-0 c.in-Some.it c.in-Some.is
      (λ (rest : List LogRecord). passes_by c.args.drawn c.args.number c.loop.head.at c.in-Some.it rest c.is_sought.result c.is_sought.ensures c.if-is_sought.false) c.loop.invariant.0 c.in_ok-next_of_log.ensures.next,
  sound_some c.next_of_log.new.head c.in_ok-next_of_log.field-0 c.in-Some.it c.in-Some.is c.in_ok-next_of_log.ensures.sound,
)

pub returns-in-None : goal.returns-in-None
returns-in-None g c =
    walk_ends (places c.args.drawn c.args.number) _ _ _ _ _ _ c.args.member c.args.end 0 c.loop.head c.next_of_log.new.head 0 c.in_ok-next_of_log.field-0 None c.in-None.is refl c.loop.invariant.0 c.in_ok-next_of_log.ensures.next

pub returns-then-is_sought : goal.returns-then-is_sought
returns-then-is_sought g c =
    walk_stops (places c.args.drawn c.args.number) _ _ _ _ _ _ c.args.member c.args.end 0 c.loop.head c.next_of_log.new.head 0 c.in_ok-next_of_log.field-0 c.in-Some.it (Some c.at-at.result) c.in-Some.is
    (λ (rest : List LogRecord). stops_at c.args.drawn c.args.number c.loop.head.at c.at-at.result c.in-Some.it rest c.is_sought.result c.is_sought.ensures c.if-is_sought.true c.at-at.ensures) c.loop.invariant.0 c.in_ok-next_of_log.ensures.next
