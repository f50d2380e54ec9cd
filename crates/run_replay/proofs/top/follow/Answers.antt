use Rattle.std.proofs.Common.{◌<◌, length, map, [], take, subst, List, true, arith}
use Rattle.ds_model.specs.declared.report.EventLine.{EventLine}
use Rattle.run_replay.specs.Follows.{Follows, StopsIn}
use Rattle.run_replay.proofs.Following.{carried, found_there, stops_there, follows_more}
use Rattle.run_replay.proofs.top.follow.Goals as goal

pub returns-in_err-take_event-clause-err : goal.returns-in_err-take_event-clause-err
returns-in_err-take_event-clause-err g c =
    let events = c.args.events.now in
    let lt : c.loop-event.event-index < length c.args.events.now = omega arith in
    carried c.from_residual.result c.in_err-take_event.field-0.0 (StopsIn g.C.CacheFace.directory g.D.Disk.alive g.D.Disk.contents g.D.Disk.faults c.args.group.now c.args.events.now) (λ z so. grind (arith, so, c.from_residual.ensures))
    (stops_there g.C.CacheFace.directory g.D.Disk.alive g.D.Disk.contents g.D.Disk.faults c.args.group.now c.loop-event.group c.take_event.new.group events c.loop-event.event-index c.event-item.result c.in_err-take_event.field-0.0
    (found_there events c.loop-event.event-index c.event-item.result lt c.event-item.is) c.loop-event.invariant c.in_err-take_event.ensures.err)

pub loop-event-preserved : goal.loop-event-preserved
loop-event-preserved g c =
    let lt : c.loop-event.event-index < length c.args.events.now = omega arith in
    follows_more g.C.CacheFace.directory g.D.Disk.alive g.D.Disk.contents g.D.Disk.faults c.args.group.now c.loop-event.group c.take_event.new.group c.args.events.now c.loop-event.event-index c.event-item.result lt c.loop-event.invariant
    (subst (λ (e : EventLine). Follows g.C.CacheFace.directory g.D.Disk.alive g.D.Disk.contents g.D.Disk.faults true c.loop-event.group e c.take_event.new.group) c.event-item.is c.in_ok-take_event.ensures.ok)
