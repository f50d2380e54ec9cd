use Rattle.std.proofs.Common.{◌≡◌, suc, ◌+◌, ◌-◌, Err, sym, ◌∙◌, arith}
use Rattle.log_record.specs.Fields.{patches_from}
use Rattle.log_record.specs.Reading.{Answers}
use Rattle.log_record.proofs.Steps.{answers_err}
use Rattle.log_record.proofs.Patches.{joined_none, joined_step, joined_err, joined_end}
use Rattle.log_record.proofs.patch.patches_from.Goals as goal

pub returns-in_err-patch : goal.returns-in_err-patch
returns-in_err-patch c =
    let less : c.args.count - c.loop.counter ≡ suc (c.args.count - (c.loop.counter + 1)) = omega arith in
    let told : Answers (Err c.in_err-patch.field-0.0) (patches_from c.args.count c.args.fields.now c.args.start) =
    λ h. c.loop.invariant ∙ joined_err c.loop.patches _ _ c.args.fields.now c.loop.at _ less (c.in_err-patch.ensures h) in
    answers_err c.from_residual.result _ _ c.from_residual.ensures.0 c.from_residual.ensures.1 told

pub loop-init : goal.loop-init
loop-init c = let z : c.args.count - 0 ≡ c.args.count = omega arith in rw (c.new-patches.ensures, z) (sym (joined_none (patches_from c.args.count c.args.fields.now c.args.start)))

pub loop-preserved : goal.loop-preserved
loop-preserved c =
    let less : c.args.count - c.loop.counter ≡ suc (c.args.count - (c.loop.counter + 1)) = omega arith in
    rw c.in_ok-push.ensures.ok (c.loop.invariant ∙ joined_step c.loop.patches _ _ c.args.fields.now c.loop.at c.in_ok-patch.patch c.in_ok-patch.next less c.in_ok-patch.ensures)

pub returns : goal.returns
returns c = c.loop.invariant ∙ joined_end c.loop.patches (c.args.count - c.loop.counter) c.args.fields.now c.loop.at (omega arith)
