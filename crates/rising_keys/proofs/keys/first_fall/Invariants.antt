use Rattle.std.proofs.Common.{◌≡◌, ◌+◌, ◌*◌, drop}
use Rattle.index_leaf.specs.Entries.{entries_of}
use Rattle.rising_keys.specs.Falls.{fall_from, fall_of}
use Rattle.rising_keys.proofs.keys.first_fall.Given as goal

-- the keys up to here rise
abbrev pub invariant-loop-at : goal.invariant-loop-at
invariant-loop-at l = fall_of (entries_of l.page) ≡ fall_from (64 + 16 * l.at) l.last (drop l.at (entries_of l.page))
