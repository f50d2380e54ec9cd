use Rattle.std.proofs.Common.{rules, ◌≡◌, ◌≤◌, length, vec_capacity, sym, ap, subst, ◌∙◌}
use Rattle.std.specs.Arc.{arc_value}
use lib.ListN.{length-map}
use Rattle.group_threads.specs.Desks.{AreMembersAt, member_in}
use Rattle.group_threads.proofs.Staffed.{at_desks, at_workers}
use Rattle.group_threads.proofs.Handed.{at_errands, errands_at}
use Rattle.group_threads.proofs.phase.play_staged.Goals as goal

pub work_all-requires-clause-few : goal.work_all-requires-clause-few
work_all-requires-clause-few g c =
    let es = c.staff-errands.result.items in
    let made : length es ≡ length c.args.desks.now.items = sym (length-map es (λ e. e.worker.desk)) ∙ ap length c.staff-errands.ensures.desks in
    subst (λ n. n ≤ 63) (sym made) c.requires.few

pub work_all-requires-clause-at : goal.work_all-requires-clause-at
work_all-requires-clause-at g c =
    let z = arc_value c.args.stage in
    let es = c.staff-errands.result.items in
    at_errands z 1 es c.staff-errands.ensures.stage
    (at_desks member_in z.turn.id z.turn.start (λ e. e.worker.desk) (λ d. d.seat) (λ d. d.part) es 1
    (subst (λ l. AreMembersAt z.turn l (λ d. d.seat) (λ d. d.part)) (sym c.staff-errands.ensures.desks) c.requires.at))

pub returns-clause-at : goal.returns-clause-at
returns-clause-at g c =
    let z = arc_value c.args.stage in
    let es = c.work_all.new.errands.items in
    subst (λ l. AreMembersAt z.turn l (λ d. d.seat) (λ d. d.part)) (sym c.dismiss.ensures)
    (at_workers member_in z.turn.id z.turn.start (λ e. e.worker.desk) (λ d. d.seat) (λ d. d.part) es 1
    (errands_at z 1 es c.work_all.ensures.at))

pub dismiss-requires : goal.dismiss-requires
dismiss-requires g c =
    let es = c.staff-errands.result.items in
    let made : length es ≡ length c.args.desks.now.items = sym (length-map es (λ e. e.worker.desk)) ∙ ap length c.staff-errands.ensures.desks in
    let fits : length c.args.desks.now.items ≤ vec_capacity c.args.desks.now = search rules in
    record {
      room = (
        c.staff-errands.ensures.empty.0,
        subst (λ n. n ≤ vec_capacity c.staff-errands.new.desks) (sym (c.work_all.ensures.count ∙ made)) (subst (λ n. length c.args.desks.now.items ≤ n) (sym c.staff-errands.ensures.empty.1) fits),
      );
    }

pub returns-clause-count : goal.returns-clause-count
returns-clause-count g c =
    let es = c.staff-errands.result.items in
    let made : length es ≡ length c.args.desks.now.items = sym (length-map es (λ e. e.worker.desk)) ∙ ap length c.staff-errands.ensures.desks in
    ap length c.dismiss.ensures ∙ (length-map c.work_all.new.errands.items (λ e. e.worker.desk) ∙ (c.work_all.ensures.count ∙ made))
