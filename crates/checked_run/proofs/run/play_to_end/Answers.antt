use Rattle.std.proofs.Common.{IfOk, refl, subst}
use denote.Param.Send.{sendable}
use Rattle.cache_structure.specs.State.{directory_of}
use Rattle.group_core.specs.Runs.{RunsOn}
use Rattle.checked_run.proofs.Crossing.{cache_send}
use Rattle.checked_run.proofs.Led.{unspent, by_threads, by_seed}
use Rattle.checked_run.proofs.run.play_to_end.Goals as goal

pub run_threads-requires-send-C : goal.run_threads-requires-send-C
run_threads-requires-send-C g c κs within = search (sendable, cache_send)

pub returns-in-None-clause-runs : goal.returns-in-None-clause-runs
returns-in-None-clause-runs g c =
    by_threads directory_of g.D.Disk.alive g.D.Disk.contents g.D.Disk.faults c.args.group c.run_threads.result.0 c.args.seed c.run_threads.result.1 c.in-None.is c.run_threads.ensures.runs

pub returns-in-Some-clause-unspent : goal.returns-in-Some-clause-unspent
returns-in-Some-clause-unspent g c spent =
    let ran = subst (λ r. IfOk r (λ end. RunsOn directory_of g.D.Disk.alive g.D.Disk.contents g.D.Disk.faults c.args.group c.new-generator.result 18446744073709551615 end c.run_one_thread-end.new.group c.run_one_thread-end.new.generator)) spent c.run_one_thread-end.ensures.runs in
    unspent c.run_one_thread-end.new.group.journal c.args.group.journal.items ran.events ran.journal (ran.spent refl)

pub returns-in-Some-clause-runs : goal.returns-in-Some-clause-runs
returns-in-Some-clause-runs g c =
    let end = c.run_one_thread-end in
    by_seed directory_of g.D.Disk.alive g.D.Disk.contents g.D.Disk.faults c.args.group end.new.group c.args.seed c.in-Some.seed c.new-generator.result 18446744073709551615 end.new.generator end.result c.in-Some.is c.new-generator.ensures end.ensures.goes end.ensures.runs

pub returns-in-Some-clause-later : goal.returns-in-Some-clause-later
returns-in-Some-clause-later g c = c.run_one_thread-end.ensures.goes.later
