use Rattle.std.proofs.Common.{◌≡◌, ◌≤◌, replicate, vec_len, vec_capacity}
use Rattle.list_structure.proofs.copies.copies.Given as goal

abbrev pub invariant-loop-n : goal.invariant-loop-n
invariant-loop-n g l = record { items : l.all.items ≡ replicate l.n l.value; length : vec_len l.all ≡ l.n; room : l.fn.count ≤ vec_capacity l.all }
