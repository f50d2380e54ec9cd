use Rattle.std.proofs.Common.{◌≡◌}
use Rattle.work_maker.specs.Made.{part_from, series}
use Rattle.work_maker.proofs.script.draw_parts.Given as goal

abbrev pub invariant-loop-index : goal.invariant-loop-index
invariant-loop-index l = series (part_from l.phase) l.index 1 l.initial.generator ≡ (l.parts, l.generator)
