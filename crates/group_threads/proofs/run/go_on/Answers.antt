use Rattle.std.proofs.Common.{inl, inr}
use Rattle.std.proofs.lemmas.Result.{on_ok_weaker}
use Rattle.group_threads.proofs.Looked.{from_on, from_one}
use Rattle.group_threads.proofs.run.go_on.Goals as goal

pub returns-in-Some-clause-runs : goal.returns-in-Some-clause-runs
returns-in-Some-clause-runs g c =
    on_ok_weaker c.step-taken.result (λ takes. from_one g.C.CacheFace.directory g.D.Disk.alive g.D.Disk.contents g.D.Disk.faults c.args.group c.step-taken.new.self c.in-Some.event takes c.step-taken.ensures.goes.later) c.step-taken.ensures.takes

pub returns-clause-runs : goal.returns-clause-runs
returns-clause-runs g c =
    let directory = g.C.CacheFace.directory in
    let alive = g.D.Disk.alive in
    let contents = g.D.Disk.contents in
    let count = g.D.Disk.faults in
    elim c.play_phase-group.ensures.runs [
      | inl wants ↦ absurd (c.is_wanting.ensures.no c.if-is_wanting.false wants)
      | inr ran ↦ on_ok_weaker c.take_one-taken.result (λ more. from_on directory alive contents count c.args.group c.play_phase-group.result c.take_one-taken.new.group ran more) c.take_one-taken.ensures.runs
    ]

pub returns-then-journal-before-clause-runs : goal.returns-then-journal-before-clause-runs
returns-then-journal-before-clause-runs g c = elim c.play_phase-group.ensures.runs [
  | inl wants ↦ absurd (c.is_wanting.ensures.no c.if-is_wanting.false wants)
  | inr ran ↦ ran
]
