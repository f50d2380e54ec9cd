use Rattle.std.proofs.Common.{◌≡◌, ◌++◌, replicate, drop}
use Rattle.lock_structure.specs.Entries.{blank}
use Rattle.lock_structure.proofs.structure.clear_all.Given as goal

abbrev pub invariant-loop-entry : goal.invariant-loop-entry
invariant-loop-entry l = l.entry-items ≡ replicate l.entry-index blank ++ drop l.entry-index l.fn.entries.items
