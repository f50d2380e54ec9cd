use Rattle.std.proofs.Common.{◌≡◌, vec_len, replicate, []}
use Rattle.ds_disk.proofs.log_set.empty_logs.Given as goal

abbrev pub invariant-loop : goal.invariant-loop
invariant-loop l = record { count : vec_len l.logs ≡ l.counter; empty : l.logs.items ≡ replicate l.counter [] }
