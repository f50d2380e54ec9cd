use Rattle.std.proofs.Common.{◌≡◌, ◌++◌}
use Rattle.work_maker.specs.Made.{op_from, series}
use Rattle.work_maker.proofs.operation.draw_ops.Given as goal

abbrev pub invariant-loop : goal.invariant-loop
invariant-loop l =
    (l.ops ≡ l.initial.ops ++ (series (λ _. op_from) l.counter 1 l.initial.generator).0)
    × (l.generator ≡ (series (λ _. op_from) l.counter 1 l.initial.generator).1)
