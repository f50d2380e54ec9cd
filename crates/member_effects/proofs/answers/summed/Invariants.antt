use Rattle.std.proofs.Common.{◌≡◌, drop}
use Rattle.member_effects.specs.Answers.{summed, nothing}
use Rattle.member_effects.proofs.answers.summed.Given as goal

-- the sum so far, and what is left, give the sum of all
abbrev pub invariant-loop-at : goal.invariant-loop-at
invariant-loop-at l = summed (drop l.at l.cells) l.at l.asked l.name l.mode l.sum ≡ summed l.cells 0 l.asked l.name l.mode nothing
