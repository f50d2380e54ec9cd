use Rattle.std.proofs.Common.{◌≡◌, ◌++◌, take, map}
use Rattle.member_marks.specs.Rollbacks.{row_of}
use Rattle.member_marks.proofs.rollbacks.put_changed.Given as goal

abbrev pub invariant-loop-it : goal.invariant-loop-it
invariant-loop-it l = l.spots.items ≡ l.fn.spots.items ++ map row_of (take l.it-index l.changes)
