use Rattle.std.proofs.Common.{◌≡◌, ◌+◌, ◌≤◌, ◌++◌, length, map, vec_capacity}
use mathlib.Core.List.{reverse}
use Rattle.group_threads.proofs.rack.lay_all.Given as goal

abbrev pub invariant-loop-part : goal.invariant-loop-part
invariant-loop-part g l =
    (l.fn.parts.items ≡ l.parts.items ++ map (λ h. h.part) (reverse l.hands.items))
    × (length l.parts.items + length l.hands.items ≤ vec_capacity l.hands)
    × (length l.beds.items ≡ length l.parts.items)
    × (vec_capacity l.parts ≡ vec_capacity l.fn.parts)
    × (vec_capacity l.beds ≡ vec_capacity l.fn.beds)

abbrev pub decreases-loop-part : goal.decreases-loop-part
decreases-loop-part g l = length l.parts.items
