use Rattle.std.proofs.Common.{◌-◌, ◌≤◌}
use Rattle.index_leaf.specs.Entries.{count_of, entries_of}
use Rattle.index_leaf.specs.Search.{how_many}
use Rattle.index_leaf.proofs.search.entries_upto.Given as goal

abbrev pub invariant-loop-low : goal.invariant-loop-low
invariant-loop-low l = record {
  from : l.low ≤ how_many (entries_of l.page) l.key;
  to : how_many (entries_of l.page) l.key ≤ l.high;
  within : l.high ≤ count_of l.page;
}

abbrev pub decreases-loop-low : goal.decreases-loop-low
decreases-loop-low l = l.high - l.low
