use Rattle.std.proofs.Common.{◌-◌, length}
use Rattle.whole_logs.proofs.Walking.{Walked}
use Rattle.whole_logs.proofs.read.read_records.Given as goal

abbrev pub invariant-loop-records : goal.invariant-loop-records
invariant-loop-records l = Walked l.bytes l.at l.low l.records

abbrev pub decreases-loop-records : goal.decreases-loop-records
decreases-loop-records l = length l.bytes - l.at
