use Rattle.std.proofs.Common.{◌≡◌, ◌-◌, ◌≤◌, length, drop}
use Rattle.log_head.specs.Whole.{whole_records}
use Rattle.log_reader.specs.Held.{marked_all}
use Rattle.log_reader.proofs.held.mark_records.Given as goal

-- the records that are left make the same mark of this one as all of the first
abbrev pub invariant-loop-it : goal.invariant-loop-it
invariant-loop-it l =
    (marked_all l.start l.mark (whole_records (drop l.mark.to l.bytes)) ≡ marked_all l.start l.fn.first (whole_records (drop l.fn.first.to l.bytes))) × (l.mark.from ≤ l.mark.to) × (l.mark.to ≤ length l.bytes)

abbrev pub decreases-loop-it : goal.decreases-loop-it
decreases-loop-it l = length l.bytes - l.mark.to
