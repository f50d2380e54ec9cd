use Rattle.group_threads.specs.Desks.{IsMemberAt}
use Rattle.group_threads.proofs.worker.«Worker+Shared+D+C+P».work.Given as goal

abbrev pub invariant-loop : goal.invariant-loop
invariant-loop g l = IsMemberAt l.turn l.number l.self.desk.seat l.self.desk.part
