use Rattle.std.proofs.Common.{◌≡◌, ℕ, Ok, take, length}
use Rattle.std.specs.BTreeSet as set
use Rattle.std.specs.Ordering.{nat_cmp}
use Rattle.opening_rows.specs.Reading.{ReadsBy}
use Rattle.opening_rows.specs.Surveyed.{AreSurveyed}
use Rattle.opening_rows.proofs.surveyed.survey_logs.Given as goal

-- the first logs were surveyed
abbrev pub invariant-loop-n : goal.invariant-loop-n
invariant-loop-n g l =
    ReadsBy (g.D.Disk.contents l.fn.disk) (g.D.Disk.contents l.disk) (g.D.Disk.faults l.fn.disk) (g.D.Disk.faults l.disk)
    (λ (n : ℕ) c. length c.logs ≡ 32 → AreSurveyed (take n c.logs) l.all.ends.items l.all.had.items (set.contains nat_cmp l.all.pending)) (λ member at c. ⊥) (Ok l.n)
    × (length l.all.ends.items ≡ l.n)
