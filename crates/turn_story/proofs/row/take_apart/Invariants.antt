use Rattle.std.proofs.Common.{◌≡◌, ◌+◌, ◌≤◌, ◌++◌, length, map, vec_capacity}
use mathlib.Core.List.{reverse}
use Rattle.turn_story.proofs.row.take_apart.Given as goal

abbrev pub invariant-loop-desk : goal.invariant-loop-desk
invariant-loop-desk g l =
    (map (λ d. d.seat) l.fn.desks.items ≡ l.seats.items ++ map (λ d. d.seat) (reverse l.desks.items))
    × (map (λ d. d.part) l.fn.desks.items ≡ l.parts.items ++ map (λ d. d.part) (reverse l.desks.items))
    × (length l.seats.items + length l.desks.items ≤ vec_capacity l.seats)
    × (length l.parts.items + length l.desks.items ≤ vec_capacity l.parts)

abbrev pub decreases-loop-desk : goal.decreases-loop-desk
decreases-loop-desk g l = length l.desks.items
