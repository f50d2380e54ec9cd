use Rattle.std.proofs.Common.{ℕ, ◌-◌, ◌+◌, ◌*◌, ◌<◌, ◌≤◌}
use Rattle.index_leaf.specs.Entries.{entry_in}
use Rattle.index_leaf.proofs.search.keys_rise.Given as goal

abbrev pub invariant-loop-at : goal.invariant-loop-at
invariant-loop-at l = record {
  from : 1 ≤ l.at;
  rising : (k : ℕ) → k + 1 < l.at → (entry_in l.page (64 + 16 * k)).key < (entry_in l.page (64 + 16 * (k + 1))).key;
}

abbrev pub decreases-loop-at : goal.decreases-loop-at
decreases-loop-at l = l.count - l.at
