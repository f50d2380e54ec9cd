use Rattle.std.proofs.Common.{◌≡◌, drop}
use Rattle.heap_space.specs.Written.{written}
use Rattle.stood_rows.proofs.patches.written.Given as goal

abbrev pub invariant-loop-patch : goal.invariant-loop-patch
invariant-loop-patch l = written l.id l.lrsn (drop l.patch-index l.patches) l.behind ≡ written l.id l.lrsn l.patches l.page
