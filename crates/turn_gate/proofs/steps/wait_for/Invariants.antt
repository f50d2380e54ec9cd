use Rattle.std.proofs.Common.{◌≡◌}
use Rattle.turn_gate.specs.Places.{IsSame}
use Rattle.turn_gate.proofs.steps.wait_for.Given as goal

abbrev pub invariant-loop : goal.invariant-loop
invariant-loop g l = IsSame l.initial.place l.place × (l.place.me ≡ l.initial.place.me)
