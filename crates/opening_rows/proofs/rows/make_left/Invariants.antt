use Rattle.std.proofs.Common.{◌≡◌, ℕ, Ok}
use Rattle.std.specs.BTreeSet as set
use Rattle.std.specs.Ordering.{nat_cmp}
use Rattle.opening_rows.specs.Reading.{ReadsBy}
use Rattle.opening_rows.proofs.Heads.{MadeSoFar}
use Rattle.opening_rows.proofs.rows.make_left.Given as goal

-- what is left gives what all gave
abbrev pub invariant-loop : goal.invariant-loop
invariant-loop g l =
    ReadsBy (g.D.Disk.contents l.fn.disk) (g.D.Disk.contents l.disk) (g.D.Disk.faults l.fn.disk) (g.D.Disk.faults l.disk)
    (λ (n : ℕ) c. MadeSoFar c.logs (set.contains nat_cmp l.pending) (set.contains nat_cmp l.committed) l.fn.heads.heads l.heads.heads l.made) (λ member at c. ⊥) (Ok 0)
    × (l.heads.block ≡ l.fn.heads.block)
