use Rattle.std.proofs.Common.{◌<◌, get_or, length, ap, ◌∙◌, [], ◌∷◌, ◌++◌, arith}
use Rattle.deadlock_cycle.proofs.Walks.{read_start, read_next}
use Rattle.std.proofs.lemmas.List.{get_or_default}
use Rattle.deadlock_cycle.specs.Steps.{no_step}
use Rattle.deadlock_cycle.proofs.cycle.cycle_from.Goals as goal

pub loop-at-init : goal.loop-at-init
loop-at-init c =
    let some : 0 < length c.args.steps.now = omega (arith, c.requires.there) in
    read_start c.args.steps.now c.args.from c.push.new.self c.requires.there c.requires.first
    (c.in_ok-push.ensures.ok ∙ ap (λ xs. xs ++ (get_or c.args.steps.now 0 c.index-steps-0.result).at ∷ []) c.new-cycle.ensures
    ∙ ap (λ s. s.at ∷ []) (get_or_default c.args.steps.now 0 c.index-steps-0.result no_step some))

pub loop-at-preserved : goal.loop-at-preserved
loop-at-preserved c = read_next c.args.steps.now c.args.from c.loop-at.at c.index-steps-at.result c.loop-at.cycle c.push-in-loop-at.new.self c.loop-at-test.true c.index-steps-at.is c.requires.back c.requires.firsts c.in_ok-push-2.ensures.ok c.loop-at.invariant
