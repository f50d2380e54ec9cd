use Rattle.std.proofs.Common.{◌≡◌, false, drop}
use Rattle.places_redo.specs.Picked.{forward_at}
use Rattle.places_redo.proofs.places.bring_each.Given as goal

abbrev pub invariant-loop-place : goal.invariant-loop-place
invariant-loop-place l = forward_at l.id l.records l.page l.is_raised (drop l.place-index l.places) ≡ forward_at l.id l.records l.fn.page false l.places
