use Rattle.disk_heads.specs.Records.{IsSound}
use Rattle.log_tests.proofs.blocks.count_records.Given as goal

-- reading can go on
abbrev pub invariant-loop-count : goal.invariant-loop-count
invariant-loop-count l = IsSound l.head
