use Rattle.std.proofs.Common.{◌≡◌, inl, inr, sym, ap, subst, arith}
use Rattle.std.proofs.lemmas.Bool.{cases_Bool}
use Rattle.group_threads.proofs.Chained.{phase_runs}
use Rattle.group_threads.proofs.Looked.{from_looked, from_on}
use Rattle.group_threads.proofs.phase.play_apart.Goals as goal

pub returns-clause-runs : goal.returns-clause-runs
returns-clause-runs g c old same parts =
    let directory = g.C.CacheFace.directory in
    let alive = g.D.Disk.alive in
    let contents = g.D.Disk.contents in
    let count = g.D.Disk.faults in
    let end = c.play_with-value.result in
    let shared = c.find_all_listening.new.self in
    let begins = subst (λ x. x ≡ record old { crew = record old.crew { parts = x.crew.parts } }) (sym (ap (λ s. s.group) c.find_all_listening.ensures)) same in
    elim (cases_Bool end.ended) [
      | inl wanting ↦ inl (c.settled.ensures.wanting wanting)
      | inr played ↦ inr (from_on directory alive contents count old c.put_together-group.result.0 c.settled.result
          (phase_runs directory alive contents count end.journal old c.put_together-group.result.0 shared end.value c.args.apart.hands.items end.parts.items begins parts (c.play_with-value.ensures.leads played) c.play_with-value.ensures.count c.put_together-group.ensures.rest c.put_together-group.ensures.parts)
          (from_looked directory alive contents count c.put_together-group.result.0 c.settled.result (c.settled.ensures.looked played)))
    ]

pub returns-clause-later : goal.returns-clause-later
returns-clause-later g c =
    let count = g.D.Disk.faults in
    let before = ap (λ s. count s.group.disk) c.find_all_listening.ensures in
    let behind = ap (λ x. count x.disk) c.put_together-group.ensures.rest in
    let last = ap count c.settled.ensures.disk.0 in
    omega (arith, before, behind, last, c.play_with-value.ensures.later)
