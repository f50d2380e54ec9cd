use Rattle.std.proofs.Common.{◌<◌, length, map, [], take, subst, List, true, arith}
use Rattle.ds_model.specs.declared.report.EventLine.{EventLine}
use Rattle.run_replay.specs.Seen.{Looks}
use Rattle.run_replay.specs.Follows.{StopsIn}
use Rattle.run_replay.proofs.Following.{carried, found_there, stops_there, looks_follow, runs_more}
use Rattle.run_replay.proofs.looks.look.Goals as goal

pub returns-in_err-look_once-clause-err : goal.returns-in_err-look_once-clause-err
returns-in_err-look_once-clause-err g c =
    let events = c.args.events.now in
    let lt : c.loop-event.event-index < length c.args.events.now = omega arith in
    carried c.from_residual.result c.in_err-look_once.field-0.0 (StopsIn g.C.CacheFace.directory g.D.Disk.alive g.D.Disk.contents g.D.Disk.faults c.args.group.now c.args.events.now) (λ z so. grind (arith, so, c.from_residual.ensures))
    (stops_there g.C.CacheFace.directory g.D.Disk.alive g.D.Disk.contents g.D.Disk.faults c.args.group.now c.loop-event.group c.look_once.new.group events c.loop-event.event-index c.event-item.result c.in_err-look_once.field-0.0
    (found_there events c.loop-event.event-index c.event-item.result lt c.event-item.is) (looks_follow g.C.CacheFace.directory g.D.Disk.alive g.D.Disk.contents g.D.Disk.faults (map (λ t. t.now) c.args.roster.now) c.args.quest.now c.args.group.now c.loop-event.group [] c.loop-event.sights.items (take c.loop-event.event-index c.args.events.now) c.loop-event.invariant) c.in_err-look_once.ensures.err)

pub loop-event-preserved : goal.loop-event-preserved
loop-event-preserved g c =
    let lt : c.loop-event.event-index < length c.args.events.now = omega arith in
    runs_more (Looks g.C.CacheFace.directory g.D.Disk.alive g.D.Disk.contents g.D.Disk.faults (map (λ t. t.now) c.args.roster.now) c.args.quest.now) c.args.group.now c.loop-event.group c.look_once.new.group [] c.loop-event.sights.items c.look_once.new.sights.items c.args.events.now c.loop-event.event-index c.event-item.result lt c.loop-event.invariant
    (subst (λ (e : EventLine). Looks g.C.CacheFace.directory g.D.Disk.alive g.D.Disk.contents g.D.Disk.faults (map (λ t. t.now) c.args.roster.now) c.args.quest.now c.loop-event.group c.loop-event.sights.items e c.look_once.new.group c.look_once.new.sights.items) c.event-item.is c.in_ok-look_once.ensures.ok)
