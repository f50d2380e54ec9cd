use Rattle.std.proofs.Common.{List, Some, None, refl}
use Rattle.ds_model.specs.declared.log.LogRecord.{LogRecord}
use Rattle.disk_walk.proofs.One.{walk_starts, walk_more, walk_stops, walk_ends, sound_start, sound_some}
use Rattle.kept_pages.proofs.Telling.{rechecks, recheck_step, recheck_stop, recheck_told}
use Rattle.kept_pages.proofs.kept.recheck_log.Goals as goal

pub loop-init : goal.loop-init
loop-init g c = (walk_starts rechecks _ _ c.args.member c.args.end c.new-head.result c.args.again.now c.new-head.ensures, sound_start c.args.end c.new-head.result c.new-head.ensures)

pub loop-preserved : goal.loop-preserved
loop-preserved g c = (
  walk_more rechecks _ _ _ _ _ _ c.args.member c.args.end c.args.again.now c.loop.head c.next_of_log.new.head c.loop.again c.enter.new.self c.in_ok-next_of_log.field-0 c.in-Some.it c.in-Some.is
      (λ (rest : List LogRecord). recheck_step c.loop.again c.enter.new.self c.loop.head.at c.at-at.result c.in-Some.it rest c.fits.result c.at-at.ensures c.in_ok-enter-in-Some.ensures c.fits.ensures c.if-not-fits.false) c.loop.invariant.0
      c.in_ok-next_of_log.ensures.next,
  sound_some c.next_of_log.new.head c.in_ok-next_of_log.field-0 c.in-Some.it c.in-Some.is c.in_ok-next_of_log.ensures.sound,
)

pub returns-in-None : goal.returns-in-None
returns-in-None g c =
    recheck_told c.args.member c.args.end c.args.again.now c.loop.again None
    (walk_ends rechecks _ _ _ _ _ _ c.args.member c.args.end c.args.again.now c.loop.head c.next_of_log.new.head c.loop.again c.in_ok-next_of_log.field-0 (record { bad = None; left = c.loop.again }) c.in-None.is refl c.loop.invariant.0
    c.in_ok-next_of_log.ensures.next)

pub returns-then-not-fits : goal.returns-then-not-fits
returns-then-not-fits g c =
    recheck_told c.args.member c.args.end c.args.again.now c.enter.new.self (Some c.at-at.result)
    (walk_stops rechecks _ _ _ _ _ _ c.args.member c.args.end c.args.again.now c.loop.head c.next_of_log.new.head c.loop.again c.in_ok-next_of_log.field-0 c.in-Some.it (record { bad = Some c.at-at.result; left = c.enter.new.self }) c.in-Some.is
    (λ (rest : List LogRecord). recheck_stop c.loop.again c.enter.new.self c.loop.head.at c.at-at.result c.in-Some.it rest c.fits.result c.at-at.ensures c.in_ok-enter-in-Some.ensures c.fits.ensures c.if-not-fits.true) c.loop.invariant.0
    c.in_ok-next_of_log.ensures.next)
