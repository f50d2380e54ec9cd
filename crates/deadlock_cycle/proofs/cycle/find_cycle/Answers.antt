use Rattle.std.proofs.Common.{arith, ◌≡◌, ◌+◌, true, List, subst, sym, ap, ◌∙◌}
use Rattle.std.specs.Prelude.{◌&&◌, not}
use Rattle.std.specs.List.{list_any}
use Rattle.deadlock_cycle.specs.declared.step.Step.{Step}
use Rattle.deadlock_cycle.specs.Cycles.{same_tran, waits_for}
use Rattle.deadlock_cycle.specs.Steps.{step_at, IsFirst, LeadsTo}
use Rattle.deadlock_cycle.specs.Waiting.{is_waiting}
use Rattle.deadlock_cycle.proofs.Search.{Kept, read_step, waits_back, is_first, ended, next}
use Rattle.deadlock_cycle.proofs.cycle.find_cycle.Goals as goal

pub cycle_from-requires-clause-first : goal.cycle_from-requires-clause-first
cycle_from-requires-clause-first c =
    let waiting : is_waiting c.loop-next.waiters.lists c.args.tran c.index.result.now.at ≡ true =
    ap (list_any (λ w. same_tran w c.args.tran)) (sym (c.deref.ensures.value ∙ c.take-list.ensures.given)) ∙ sym c.contains.ensures.value ∙ c.if-contains.true in
    let first = is_first c.args.waits.now c.args.tran (is_waiting c.loop-next.waiters.lists) c.loop-next.steps.items c.loop-next.next c.index.result.now c.loop-next.invariant
    (read_step c.loop-next.steps.items c.loop-next.next c.index.result.now (omega arith) c.index.ensures) c.args.tran (omega arith) waiting in
    subst (λ (steps : List Step). IsFirst steps c.loop-next.next) (sym c.deref-then-contains.ensures.value) first

pub returns-then-contains-clause-cycle : goal.returns-then-contains-clause-cycle
returns-then-contains-clause-cycle c =
    let waiting : is_waiting c.loop-next.waiters.lists c.args.tran c.index.result.now.at ≡ true =
    ap (list_any (λ w. same_tran w c.args.tran)) (sym (c.deref.ensures.value ∙ c.take-list.ensures.given)) ∙ sym c.contains.ensures.value ∙ c.if-contains.true in
    let back = waits_back c.args.waits.now c.args.tran (is_waiting c.loop-next.waiters.lists) c.loop-next.steps.items c.loop-next.next c.index.result.now c.loop-next.invariant
    (read_step c.loop-next.steps.items c.loop-next.next c.index.result.now (omega arith) c.index.ensures) waiting in
    let leads = subst (λ (steps : List Step). LeadsTo c.args.waits.now c.args.tran steps) (sym c.deref-then-contains.ensures.value) c.loop-next.invariant.leads in
    c.in_ok-cycle_from.ensures.cycle c.args.waits.now c.args.tran leads
    (subst (λ (steps : List Step). waits_for c.args.waits.now c.args.tran (step_at steps c.loop-next.next).at ≡ true) (sym c.deref-then-contains.ensures.value) back)

pub loop-next-preserved : goal.loop-next-preserved
loop-next-preserved c =
    let step = read_step c.loop-next.steps.items c.loop-next.next c.index.result.now (omega arith) c.index.ensures in
    let left = is_waiting c.loop-next.waiters.lists in
    let list = c.deref-in-loop-next.result.now in
    let is_list = c.deref-in-loop-next.ensures.value ∙ c.take-list.ensures.given in
    subst (λ (steps : List Step). Kept c.args.waits.now c.args.tran (is_waiting c.take-list.new.self.lists) steps (c.loop-next.next + 1)) (sym c.in_ok-add_steps.ensures)
    (next c.args.waits.now c.args.tran left c.loop-next.steps.items c.loop-next.next c.loop-next.invariant (omega arith) list
    (λ a. ap (list_any (λ w. same_tran w a)) is_list ∙ ap (λ s. left a s.at) step)
    (is_waiting c.take-list.new.self.lists)
    (λ a b. c.take-list.ensures.taken a b ∙ ap (λ s. left a b && not (same_tran s.at b)) step)
    (ap (list_any (λ w. same_tran w c.args.tran)) (c.deref-in-loop-next.ensures.value ∙ sym c.deref.ensures.value) ∙ sym c.contains.ensures.value ∙ c.if-contains.false))

pub returns-clause-none : goal.returns-clause-none
returns-clause-none c = ended c.args.waits.now c.args.tran (is_waiting c.loop-next.waiters.lists) c.loop-next.steps.items c.loop-next.next c.loop-next.invariant (omega arith)
