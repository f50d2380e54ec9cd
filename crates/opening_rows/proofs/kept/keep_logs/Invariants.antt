use Rattle.std.proofs.Common.{ℕ, Ok}
use Rattle.opening_rows.specs.Reading.{ReadsBy}
use Rattle.opening_rows.proofs.KeptMore.{KeepsFirst}
use Rattle.opening_rows.proofs.kept.keep_logs.Given as goal

-- what is to be kept of the first logs is kept
abbrev pub invariant-loop-n : goal.invariant-loop-n
invariant-loop-n g l =
    ReadsBy (g.D.Disk.contents l.fn.disk) (g.D.Disk.contents l.disk) (g.D.Disk.faults l.fn.disk) (g.D.Disk.faults l.disk) (λ (n : ℕ) c. KeepsFirst n l.had l.all c) (λ member at c. ⊥) (Ok l.n)
