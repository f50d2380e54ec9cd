use Rattle.std.proofs.Common.{◌≡◌, ℕ, ◌∷◌, ◌++◌, [], List, length, refl, sym, ap, subst, ◌∙◌}
use Rattle.group_threads.specs.declared.shared.Shared.{Shared}
use Rattle.group_threads.proofs.Entered.{event_steps}
use Rattle.group_threads.proofs.event.SharedStepping.run.Goals as goal

pub returns-clause-steps : goal.returns-clause-steps
returns-clause-steps g c =
    let old = c.args.self.now in
    let mid = c.refresh.new.self in
    let after = c.take.new.self in
    let begins : mid ≡ record old { group = record old.group { journal = mid.group.journal; lines = mid.group.lines; faults = mid.group.faults }; stale = mid.stale } =
    subst (λ (s : Shared g.row.D.Denot g.row.C.Denot g.row.P.Denot). s ≡ record old { group = record old.group { journal = s.group.journal; lines = s.group.lines; faults = s.group.faults }; stale = s.stale }) (sym c.refresh.ensures.shared) refl in
    let entered : mid.group.journal.items ≡ c.push_reserved.new.self.items = ap (λ (s : Shared g.row.D.Denot g.row.C.Denot g.row.P.Denot). s.group.journal.items) c.refresh.ensures.shared in
    let journal : mid.group.journal.items ≡ old.group.journal.items ++ c.args.event ∷ [] =
    entered ∙ (c.push_reserved.ensures.items ∙ ap (λ (l : List ℕ). l ++ c.args.event ∷ []) c.in_ok-reserve.ensures.journal) in
    let faults : mid.group.faults.items ≡ old.group.faults.items = ap (λ (s : Shared g.row.D.Denot g.row.C.Denot g.row.P.Denot). s.group.faults.items) c.refresh.ensures.shared ∙ c.in_ok-reserve.ensures.faults in
    let place : c.len-place.result ≡ length mid.group.journal.items = c.len-place.ensures ∙ (c.push_reserved.new.self.ok.0 ∙ ap length (sym entered)) in
    event_steps g.C.CacheFace.directory g.D.Disk.alive g.D.Disk.contents g.D.Disk.faults old mid after
    (record after { group = record after.group { faults = c.note_failure.new.faults } }) c.args.hand.now c.take.new.hand c.refresh.new.part c.args.event c.len-place.result c.in_ok-failed.failed place
    begins c.in_ok-failed.ensures.takes refl c.refresh.ensures.part journal faults c.note_failure.ensures c.in_ok-failed.ensures.later c.in_ok-failed.ensures.rose
