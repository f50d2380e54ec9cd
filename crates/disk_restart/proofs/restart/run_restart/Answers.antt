use Rattle.std.proofs.Common.{rules, ◌≡◌, Ok, arith, inr}
use Rattle.std.proofs.lemmas.Grind.{common_steps}
use Rattle.group_restart.specs.declared.calls.State.TheVariants as state
use Rattle.group_restart.specs.Disk.{Drive}
use Rattle.disk_restart.proofs.Runs.{none_gone, one_more, ends_by}
use Rattle.disk_restart.proofs.Steps.{begun, step_goes, step_ends, step_keeps, alive_keeps}
use Rattle.disk_restart.proofs.restart.run_restart.Goals as goal

pub loop-init : goal.loop-init
loop-init g c = record {
  later = omega arith;
  runs = begun (record { nothing = c.reader_laws.ensures.nothing; keeping = c.reader_laws.ensures.keeping; grown = c.reader_laws.ensures.grown; last = c.reader_laws.ensures.last }) (g.D.Disk.contents c.args.disk.now) c.args.restart.now (g.D.Disk.has_logs c.args.disk.now) c.requires;
  gone = none_gone (record { alive = g.D.Disk.alive c.args.disk.now; contents = g.D.Disk.contents c.args.disk.now }) c.args.restart.now;
}

pub returns-in_err-state-clause-keeps : goal.returns-in_err-state-clause-keeps
returns-in_err-state-clause-keeps g c =
    let w : Drive = record { alive = g.D.Disk.alive c.loop.disk; contents = g.D.Disk.contents c.loop.disk } in
    let v : Drive = record { alive = g.D.Disk.alive c.step.new.disk; contents = g.D.Disk.contents c.step.new.disk } in
    step_keeps c.log_laws.ensures.sound (g.D.Disk.contents c.args.disk.now) w v c.loop.restart c.step.new.self c.step.result c.loop.invariant.runs c.step.ensures.goes

pub returns-in_err-state-clause-run : goal.returns-in_err-state-clause-run
returns-in_err-state-clause-run g c =
    let o : Drive = record { alive = g.D.Disk.alive c.args.disk.now; contents = g.D.Disk.contents c.args.disk.now } in
    let w : Drive = record { alive = g.D.Disk.alive c.loop.disk; contents = g.D.Disk.contents c.loop.disk } in
    let v : Drive = record { alive = g.D.Disk.alive c.step.new.disk; contents = g.D.Disk.contents c.step.new.disk } in
    let same : c.step.result ≡ c.from_residual.result = first_of (cc, search rules, grind (arith, common_steps)) in
    ends_by o w v c.args.restart.now c.loop.restart c.step.new.self c.step.result c.from_residual.result c.loop.invariant.gone c.step.ensures.goes same

pub returns-then-ne-clause-keeps : goal.returns-then-ne-clause-keeps
returns-then-ne-clause-keeps g c =
    let w : Drive = record { alive = g.D.Disk.alive c.loop.disk; contents = g.D.Disk.contents c.loop.disk } in
    let v : Drive = record { alive = g.D.Disk.alive c.step.new.disk; contents = g.D.Disk.contents c.step.new.disk } in
    step_keeps c.log_laws.ensures.sound (g.D.Disk.contents c.args.disk.now) w v c.loop.restart c.step.new.self c.step.result c.loop.invariant.runs c.step.ensures.goes

pub returns-then-ne-clause-run : goal.returns-then-ne-clause-run
returns-then-ne-clause-run g c =
    let o : Drive = record { alive = g.D.Disk.alive c.args.disk.now; contents = g.D.Disk.contents c.args.disk.now } in
    let w : Drive = record { alive = g.D.Disk.alive c.loop.disk; contents = g.D.Disk.contents c.loop.disk } in
    let v : Drive = record { alive = g.D.Disk.alive c.step.new.disk; contents = g.D.Disk.contents c.step.new.disk } in
    let same : c.step.result ≡ Ok c.in_ok-state.state = cc in
    ends_by o w v c.args.restart.now c.loop.restart c.step.new.self c.step.result (Ok c.in_ok-state.state) c.loop.invariant.gone c.step.ensures.goes same

pub returns-then-ne-clause-there : goal.returns-then-ne-clause-there
returns-then-ne-clause-there g c = λ counter is.
    let w : Drive = record { alive = g.D.Disk.alive c.loop.disk; contents = g.D.Disk.contents c.loop.disk } in
    let v : Drive = record { alive = g.D.Disk.alive c.step.new.disk; contents = g.D.Disk.contents c.step.new.disk } in
    let ended : c.step.result ≡ Ok (state.Done counter) = cc in
    step_ends c.log_laws.ensures.sound (record { nothing = c.reader_laws.ensures.nothing; keeping = c.reader_laws.ensures.keeping; grown = c.reader_laws.ensures.grown; last = c.reader_laws.ensures.last }) (g.D.Disk.contents c.args.disk.now) w v c.loop.restart c.step.new.self c.step.result counter c.loop.invariant.runs c.step.ensures.goes ended

pub loop-preserved : goal.loop-preserved
loop-preserved g c =
    let o : Drive = record { alive = g.D.Disk.alive c.args.disk.now; contents = g.D.Disk.contents c.args.disk.now } in
    let w : Drive = record { alive = g.D.Disk.alive c.loop.disk; contents = g.D.Disk.contents c.loop.disk } in
    let v : Drive = record { alive = g.D.Disk.alive c.step.new.disk; contents = g.D.Disk.contents c.step.new.disk } in
    let going : c.in_ok-state.state ≡ state.Going = first_of (search rules, grind (arith, common_steps, c.ne.ensures)) in
    let again : c.step.result ≡ Ok state.Going = cc in
    record {
      later = omega (arith, c.loop.invariant.later, c.step.ensures.later);
      runs = step_goes c.log_laws.ensures.sound (record { nothing = c.reader_laws.ensures.nothing; keeping = c.reader_laws.ensures.keeping; grown = c.reader_laws.ensures.grown; last = c.reader_laws.ensures.last }) (g.D.Disk.contents c.args.disk.now) w v c.loop.restart c.step.new.self c.step.result c.loop.invariant.runs c.step.ensures.goes again;
      gone = one_more o w v c.args.restart.now c.loop.restart c.step.new.self c.step.result c.loop.invariant.gone c.step.ensures.goes again;
    }

pub returns-clause-keeps : goal.returns-clause-keeps
returns-clause-keeps g c = alive_keeps (g.D.Disk.contents c.args.disk.now) (g.D.Disk.contents c.loop.disk) c.loop.restart c.loop.invariant.runs

pub returns-clause-run : goal.returns-clause-run
returns-clause-run g c = inr (c.loop.invariant.gone, tt)
