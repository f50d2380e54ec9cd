use Rattle.std.proofs.Common.{◌≡◌, take}
use Rattle.index_leaf.specs.Entries.{entries_of}
use Rattle.index_links.proofs.entries.entries_in.Given as goal

abbrev pub invariant-loop-n : goal.invariant-loop-n
invariant-loop-n l = l.entries.items ≡ take l.n (entries_of l.page)
