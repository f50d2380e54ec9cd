use Rattle.std.proofs.Common.{◌≡◌, drop}
use Rattle.fitting_records.specs.Summed.{any_asks}
use Rattle.fitting_records.proofs.sums.any_asks.Given as goal

-- the logs that are left give what all give
abbrev pub invariant-loop-n : goal.invariant-loop-n
invariant-loop-n l = any_asks (drop l.n l.olds) (drop l.n l.ends) ≡ any_asks l.olds l.ends
