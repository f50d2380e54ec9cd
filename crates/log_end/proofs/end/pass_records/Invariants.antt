use Rattle.std.proofs.Common.{ℕ, length}
use Rattle.log_end.specs.Ends.{ArePassed}
use Rattle.log_end.proofs.end.pass_records.Given as goal

-- the records so far were passed
abbrev pub invariant-loop : goal.invariant-loop
invariant-loop l = ArePassed l.initial.head l.head

abbrev pub decreases-loop : goal.decreases-loop
decreases-loop l = length l.head.hand
