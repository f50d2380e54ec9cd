use Rattle.std.proofs.Common.{ℕ, Ok}
use Rattle.opening_rows.specs.Reading.{ReadsBy}
use Rattle.opening_rows.proofs.FreshMore.{AreFirstSo}
use Rattle.opening_rows.proofs.fresh.read_trans.Given as goal

-- the first logs were read
abbrev pub invariant-loop-n : goal.invariant-loop-n
invariant-loop-n g l =
    ReadsBy (g.D.Disk.contents l.fn.disk) (g.D.Disk.contents l.disk) (g.D.Disk.faults l.fn.disk) (g.D.Disk.faults l.disk) (λ (n : ℕ) c. AreFirstSo n l.logs.items c) (λ member at c. ⊥) (Ok l.n)
