use Rattle.std.proofs.Common.{◌≡◌, ◌+◌, ◌≤◌, ◌++◌, length, map, vec_capacity}
use mathlib.Core.List.{reverse}
use Rattle.group_core.specs.Given.{unlooked}
use Rattle.group_threads.proofs.rack.lift_all.Given as goal

abbrev pub invariant-loop-hand : goal.invariant-loop-hand
invariant-loop-hand g l =
    (map unlooked (map (λ h. h.part) (reverse l.fn.hands.items)) ≡ map unlooked l.parts.items ++ map unlooked (map (λ h. h.part) (reverse l.hands.items)))
    × (length l.parts.items + length l.hands.items ≤ vec_capacity l.parts)
    × (length l.beds.items + length l.hands.items ≡ length l.fn.hands.items)
    × (length l.fn.hands.items ≤ vec_capacity l.beds)
    × (vec_capacity l.hands ≡ vec_capacity l.fn.hands)

abbrev pub decreases-loop-hand : goal.decreases-loop-hand
decreases-loop-hand g l = length l.hands.items
