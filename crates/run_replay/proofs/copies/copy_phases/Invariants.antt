use Rattle.std.proofs.Common.{◌≡◌, take}
use Rattle.run_replay.proofs.copies.copy_phases.Given as goal

abbrev pub invariant-loop-phase : goal.invariant-loop-phase
invariant-loop-phase l = l.copies ≡ take l.phase-index l.phases
