use Rattle.group_crew.proofs.Known.{looked_know}
use Rattle.group_crew.proofs.Made.{looked_new}
use Rattle.group_crew.proofs.crew.Crew.new.Goals as goal

pub returns-clause-fresh : goal.returns-clause-fresh
returns-clause-fresh g c = looked_new g.C.CacheFace.directory c.in_ok-crew.crew c.find_ready.new.self c.in_ok-crew.ensures.fresh c.find_ready.ensures.looks

pub returns-clause-known : goal.returns-clause-known
returns-clause-known g c = looked_know c.args.known.now c.in_ok-crew.crew.parts.items c.find_ready.new.self.parts.items c.find_ready.ensures.looks.parts c.in_ok-crew.ensures.known
