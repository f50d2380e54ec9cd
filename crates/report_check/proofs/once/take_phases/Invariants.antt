use Rattle.std.proofs.Common.{◌≡◌, ◌++◌, take, map}
use Rattle.std.specs.List.{flat_map}
use Rattle.ds_model.specs.Transactions.{placed_phase}
use Rattle.report_check.proofs.Onces.{placed_seen}
use Rattle.report_check.proofs.once.take_phases.Given as goal

abbrev pub invariant-loop-phase : goal.invariant-loop-phase
invariant-loop-phase l = map placed_seen l.out.items ≡ map placed_seen l.fn.out.items ++ flat_map placed_phase (take l.phase-index l.phases)
