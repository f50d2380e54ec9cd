use Rattle.std.proofs.Common.{◌≡◌, ◌+◌, ◌≤◌, ◌++◌, length, map, vec_capacity}
use mathlib.Core.List.{reverse}
use Rattle.turn_story.proofs.row.put_together.Given as goal

abbrev pub invariant-loop-seat : goal.invariant-loop-seat
invariant-loop-seat g l =
    (l.fn.seats.items ≡ l.seats.items ++ map (λ d. d.seat) (reverse l.row.items))
    × (l.fn.parts.items ≡ l.parts.items ++ map (λ d. d.part) (reverse l.row.items))
    × (length l.seats.items ≡ length l.parts.items)
    × (length l.seats.items + length l.row.items ≤ vec_capacity l.row)
    × (vec_capacity l.seats ≡ vec_capacity l.fn.seats)
    × (vec_capacity l.parts ≡ vec_capacity l.fn.parts)

abbrev pub decreases-loop-seat : goal.decreases-loop-seat
decreases-loop-seat g l = length l.seats.items
