use Rattle.std.proofs.Common.{Ok, List, sym, subst, refl}
use Rattle.ds_model.specs.declared.log.LogRecord.{LogRecord}
use Rattle.disk_walk.specs.Reading.{Reads}
use Rattle.disk_walk.proofs.One.{WalksOn, walk_starts, walk_more, walk_ends, sound_start, sound_some}
use Rattle.kept_checkpoints.specs.declared.scan.LogScan.{LogScan}
use Rattle.kept_checkpoints.specs.Scan.{nothing_scanned}
use Rattle.kept_pages.proofs.Telling.{scans, scan_step, scan_told, scan_first}
use Rattle.kept_pages.proofs.kept.scan_log.Goals as goal

pub loop-init : goal.loop-init
loop-init g c = (scan_first _ _ c.args.member c.args.end c.new-head.result c.new-scan.result c.new-head.ensures c.new-scan.ensures, sound_start c.args.end c.new-head.result c.new-head.ensures)

pub loop-preserved : goal.loop-preserved
loop-preserved g c = (
  walk_more scans _ _ _ _ _ _ c.args.member c.args.end nothing_scanned c.loop.head c.next_of_log.new.head c.loop.scan c.enter.new.self c.in_ok-next_of_log.field-0 c.in-Some.it c.in-Some.is
      (λ (rest : List LogRecord). scan_step c.loop.scan c.enter.new.self c.loop.head.at c.at-at.result c.in-Some.it rest c.at-at.ensures c.in_ok-enter-in-Some.ensures) c.loop.invariant.0 c.in_ok-next_of_log.ensures.next,
  sound_some c.next_of_log.new.head c.in_ok-next_of_log.field-0 c.in-Some.it c.in-Some.is c.in_ok-next_of_log.ensures.sound,
)

pub returns-in-None : goal.returns-in-None
returns-in-None g c =
    scan_told c.args.member c.args.end nothing_scanned c.loop.scan refl
    (walk_ends scans _ _ _ _ _ _ c.args.member c.args.end nothing_scanned c.loop.head c.next_of_log.new.head c.loop.scan c.in_ok-next_of_log.field-0 c.loop.scan c.in-None.is refl c.loop.invariant.0 c.in_ok-next_of_log.ensures.next)
