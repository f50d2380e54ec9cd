use Rattle.std.proofs.Common.{◌≡◌, sym, ap, ◌∙◌}
use Rattle.kept_checkpoints.specs.declared.needs.Need.{Need}
use Rattle.disk_walk.proofs.One.{sound_start, sound_some}
use Rattle.kept_pages.proofs.Telling.{judge_starts, judge_goes, judge_ends}
use Rattle.kept_pages.proofs.kept.judge_log.Goals as goal

pub loop-init : goal.loop-init
loop-init g c = (judge_starts _ _ c.args.member c.args.end c.args.again.now c.args.first c.new-head.result c.new-head.ensures, sound_start c.args.end c.new-head.result c.new-head.ensures)

pub loop-preserved : goal.loop-preserved
loop-preserved g c = (
  judge_goes _ _ _ _ _ _ _ _ c.args.member c.args.end c.args.again.now c.args.first c.loop.head c.next_of_log.new.head c.loop.found c.in_ok-now-in-Some.now c.at-at.result c.in_ok-next_of_log.field-0 c.in-Some.it c.as_slice.result.now c.in-Some.is c.at-at.ensures
      (c.as_slice.ensures ∙ c.in_ok-needs-in-Some.ensures) c.loop.invariant.0 c.in_ok-next_of_log.ensures.next c.in_ok-now-in-Some.ensures,
  sound_some c.next_of_log.new.head c.in_ok-next_of_log.field-0 c.in-Some.it c.in-Some.is c.in_ok-next_of_log.ensures.sound,
)

pub returns-in-None : goal.returns-in-None
returns-in-None g c = judge_ends _ _ _ _ _ _ c.args.member c.args.end c.args.again.now c.args.first c.loop.head c.next_of_log.new.head c.loop.found c.in_ok-next_of_log.field-0 c.in-None.is c.loop.invariant.0 c.in_ok-next_of_log.ensures.next
