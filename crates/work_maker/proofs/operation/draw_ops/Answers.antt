use Rattle.std.proofs.Common.{◌≡◌, ◌+◌, List, ◌∷◌, [], refl, sym, append_assoc}
use Rattle.std.proofs.lemmas.List.{append-nil}
use Rattle.ds_model.specs.declared.script.Op.{Op}
use Rattle.work_maker.specs.Made.{op_from, series}
use Rattle.work_maker.proofs.Series.{step_items, step_state}
use Rattle.work_maker.proofs.operation.draw_ops.Goals as goal

pub loop-init : goal.loop-init
unfolding series
loop-init c = (sym (append-nil _), refl)

pub loop-preserved : goal.loop-preserved
loop-preserved c =
    let made : ◌≡◌ {A = List Op} _ _ = step_items (λ _. op_from) c.loop.counter 1 c.args.generator.now (1 + c.loop.counter) c.loop.generator c.in_ok-draw_op.field-0 c.draw_op.new.generator refl c.loop.invariant.1 c.in_ok-draw_op.ensures in
    let next = step_state (λ _. op_from) c.loop.counter 1 c.args.generator.now (1 + c.loop.counter) c.loop.generator c.in_ok-draw_op.field-0 c.draw_op.new.generator refl c.loop.invariant.1 c.in_ok-draw_op.ensures in
    (rw (c.in_ok-push.ensures.ok, c.loop.invariant.0, made) (append_assoc c.args.ops.now (series (λ _. op_from) c.loop.counter 1 c.args.generator.now).0 (c.in_ok-draw_op.field-0 ∷ [])), sym next)
