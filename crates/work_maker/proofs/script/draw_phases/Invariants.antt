use Rattle.std.proofs.Common.{◌≡◌}
use Rattle.work_maker.specs.Made.{phase_from, series}
use Rattle.work_maker.proofs.script.draw_phases.Given as goal

abbrev pub invariant-loop-index : goal.invariant-loop-index
invariant-loop-index l = series phase_from l.index 1 l.initial.generator ≡ (l.phases, l.generator)
