use Rattle.std.proofs.Common.{◌≡◌, ◌++◌, take, map}
use Rattle.member_marks.specs.Rollbacks.{row_changed}
use Rattle.member_marks.proofs.rollbacks.put_undone.Given as goal

abbrev pub invariant-loop-change : goal.invariant-loop-change
invariant-loop-change l = l.spots.items ≡ l.fn.spots.items ++ map row_changed (take l.change-index l.undone)
