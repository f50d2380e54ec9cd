use Rattle.std.proofs.Common.{◌≡◌, drop}
use Rattle.restart_marks.specs.Cells.{summed, no_sum}
use Rattle.restart_marks.proofs.cells.summed.Given as goal

-- the sum so far, and what is left, give the sum of all
abbrev pub invariant-loop-at : goal.invariant-loop-at
invariant-loop-at l = summed (drop l.at l.cells) l.at l.asked l.sum ≡ summed l.cells 0 l.asked no_sum
