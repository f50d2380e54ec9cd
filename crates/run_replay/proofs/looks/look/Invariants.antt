use Rattle.std.proofs.Common.{map, take, []}
use Rattle.run_replay.specs.Seen.{LooksAll}
use Rattle.run_replay.proofs.looks.look.Given as goal

abbrev pub invariant-loop-event : goal.invariant-loop-event
invariant-loop-event g l = LooksAll g.C.CacheFace.directory g.D.Disk.alive g.D.Disk.contents g.D.Disk.faults (map (λ t. t.now) l.roster) l.quest l.fn.group [] (take l.event-index l.events) l.group l.sights.items
