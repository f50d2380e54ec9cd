use Rattle.std.proofs.Common.{◌≡◌, ℕ, ◌≤◌, Ok}
use Rattle.log_heads.specs.declared.taken.Taken.TheVariants.{Wants}
use Rattle.log_heads.specs.Heads.{taken_of}
use Rattle.log_heads.specs.Logs.{left, work_left}
use Rattle.opening_rows.specs.Reading.{ReadsBy}
use Rattle.opening_rows.specs.Rows.{Stand, Comes}
use Rattle.opening_rows.proofs.rows.next_of_all.Given as goal

-- what was taken last, of the logs as they were at first
abbrev pub invariant-loop-taken : goal.invariant-loop-taken
invariant-loop-taken g l =
    ReadsBy (g.D.Disk.contents l.fn.disk) (g.D.Disk.contents l.disk) (g.D.Disk.faults l.fn.disk) (g.D.Disk.faults l.disk)
    (λ (n : ℕ) c. Stand c.logs l.fn.heads.heads → Stand c.logs l.heads.heads × Comes (left c.logs l.fn.heads.heads) l.taken (left c.logs l.heads.heads)) (λ member at c. ⊥) (Ok 0)
    × ((member at count : ℕ) → l.taken ≡ Wants member at count → (taken_of l.heads ≡ Wants member at count) × (count ≤ l.heads.block))
    × (l.heads.block ≡ l.fn.heads.block)

abbrev pub decreases-loop-taken : goal.decreases-loop-taken
decreases-loop-taken g l = work_left l.heads.heads
