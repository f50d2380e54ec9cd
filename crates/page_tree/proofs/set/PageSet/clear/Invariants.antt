use Rattle.std.proofs.Common.{◌≡◌, ◌+◌, length}
use Rattle.page_tree.proofs.set.PageSet.clear.Given as goal

abbrev pub invariant-loop : goal.invariant-loop
invariant-loop l = (length l.self.listed + l.counter ≡ length l.fn.self.listed) × (l.self.room ≡ l.fn.self.room + l.counter)
